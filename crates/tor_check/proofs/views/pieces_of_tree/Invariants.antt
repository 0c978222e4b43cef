use Rattle.tor_check.proofs.Names.{◌≡◌, ◌-◌, ◌^◌, min, sum_by, take, pieces_in}
use Rattle.tor_check.proofs.views.pieces_of_tree.Given as goal

-- the pieces of the files so far, or the greatest number of 64 bits
abbrev pub invariant-files : goal.invariant-files
invariant-files l =
    l.count ≡ min (2 ^ 64 - 1) (sum_by (λ file. pieces_in l.piece_length file.length) (take l.file-index l.files))
