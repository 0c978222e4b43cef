use Rattle.tor_check.proofs.Names.{◌≡◌, drop, iter_rest, sized_files, tree_pairs, same_files}
use Rattle.tor_check.proofs.agree.files_differ.Given as goal

-- the files are the same if those that are left are
abbrev pub invariant-listed : goal.invariant-listed
invariant-listed l =
    same_files (sized_files l.listed) (tree_pairs l.files)
    ≡ same_files (sized_files (drop l.file-index l.listed)) (tree_pairs (iter_rest l.left))
