use Rattle.tor_check.proofs.Names.{◌≡◌, false, take, list_any, seen, lacks_layer}
use Rattle.tor_check.proofs.layers.lacks_a_layer.Given as goal

-- none of the files so far
abbrev pub invariant-files : goal.invariant-files
invariant-files l = list_any (lacks_layer l.layers.piece_length (seen l.layers)) (take l.file-index l.files) ≡ false
