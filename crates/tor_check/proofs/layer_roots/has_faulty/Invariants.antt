use Rattle.tor_check.proofs.Names.{◌≡◌, false, take, list_any, seen, has_faulty_layer, IsJudged, IsKept}
use Rattle.tor_check.proofs.layer_roots.has_faulty.Given as goal

-- none of the files so far, and what was judged of their roots
abbrev pub invariant-files : goal.invariant-files
invariant-files l = record {
  none : list_any (has_faulty_layer l.layers.piece_length (seen l.layers)) (take l.file-index l.files) ≡ false;
  judged : IsKept (IsJudged l.layers.piece_length (seen l.layers)) (seen l.layers) l.judged;
}
