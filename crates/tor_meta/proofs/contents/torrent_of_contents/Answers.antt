use Rattle.std.proofs.Common.{◌∙◌, ap}
use Rattle.tor_bencode.specs.Spelling.{spelling}
use Rattle.tor_meta.specs.steps.Contents.{bytes_of, files_of}
use Rattle.tor_spec.specs.Metainfo.{facts_of_files, metainfo}
use Rattle.tor_meta.proofs.ContentSteps.{have_trees, same_pieces, told_facts}
use Rattle.tor_meta.proofs.contents.torrent_of_contents.Goals as goal

pub torrent_bytes-requires-clause-trees : goal.torrent_bytes-requires-clause-trees
torrent_bytes-requires-clause-trees c =
    have_trees c.args.head.now c.args.list.now.files (bytes_of c.args.contents.now) c.in_ok-sums.sums
    c.requires.contents
    c.in_ok-sums.ensures

pub returns-clause-made : goal.returns-clause-made
unfolding metainfo
returns-clause-made c =
    let contents = bytes_of c.args.contents.now in
    let many = c.attrs-attrs.ensures.one_each in
    let told =
    told_facts c.args.head.now c.args.list.now contents c.in_ok-sums.sums many c.requires.contents
    c.in_ok-sums.ensures in
    c.in_ok-bytes.ensures.made (facts_of_files c.args.head.now.piece_length (files_of c.args.list.now contents)) told
    ∙ ap spelling
    (same_pieces c.args.head.now c.args.list.now contents c.in_ok-sums.sums many c.requires.contents
    c.in_ok-sums.ensures)
