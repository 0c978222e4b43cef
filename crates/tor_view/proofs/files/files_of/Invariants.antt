-- the files so far
use Rattle.tor_view.proofs.Names.{◌≡◌, map, range_with_len, file_spans, found_at}
use Rattle.tor_view.proofs.files.files_of.Given as goal

abbrev pub invariant-files : goal.invariant-files
invariant-files l =
    l.files.items ≡ map (found_at (file_spans l.torrent) l.lengths l.held) (range_with_len 0 l.index)
