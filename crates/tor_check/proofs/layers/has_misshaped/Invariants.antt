use Rattle.tor_check.proofs.Names.{◌≡◌, false, take, list_any, seen, is_misshaped}
use Rattle.tor_check.proofs.layers.has_misshaped.Given as goal

-- none of the files so far
abbrev pub invariant-files : goal.invariant-files
invariant-files l = list_any (is_misshaped l.layers.piece_length (seen l.layers)) (take l.file-index l.files) ≡ false
