-- A torrent that was judged can be cut, so that all its bytes are few.
use Rattle.std.proofs.Common.{◌≤◌, subst, sym, List}
use Rattle.tor_view.specs.Pieces.{IsCut}
use Rattle.tor_spec.specs.valid.View.{FileView}
use Rattle.tor_tree.specs.declared.lists.TheConstants.{MAX_TOTAL}
use Rattle.tor_report.specs.Records.{total_length}
use Rattle.tor_report.proofs.Totals.{total_fits}
use Rattle.tor_report.proofs.record.total_length.Goals as goal

pub length_of_files-requires : goal.length_of_files-requires
length_of_files-requires c =
    let valid = c.files.ensures.valid in
    let cut = subst IsCut (sym valid.described) (c.valid_torrents_are_cut.ensures valid.tree valid.accepted) in
    subst (λ (files : List FileView). total_length files ≤ MAX_TOTAL) (sym c.files.ensures.value)
    (total_fits c.args.torrent.now cut)
