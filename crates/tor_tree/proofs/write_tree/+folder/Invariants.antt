use Rattle.tor_tree.proofs.Cited.{◌≡◌, ◌≤◌, ◌+◌, ◌-◌, ◌*◌, ◌^◌, length, take, drop, pairs_view, IsRoot, files_below}
use Rattle.tor_tree.proofs.Cited.{pairs_of_files}
use Rattle.std.proofs.Common.{All}
use Rattle.tor_tree.proofs.FilesBelow.{followed_by}
use Rattle.tor_tree.proofs.write_tree.+folder.Given as goal

abbrev pub decreases-folder : goal.decreases-folder
decreases-folder l = 2 * (2 ^ 64 - l.depth) + 1

abbrev pub decreases-next_pair : goal.decreases-next_pair
decreases-next_pair l = 2 * (2 ^ 64 - l.depth)

abbrev pub decreases-folder-loop-start : goal.decreases-folder-loop-start
decreases-folder-loop-start l = length l.files - l.start

-- the pairs so far, followed by those of the files that are left, are those of all files
abbrev pub invariant-folder-loop-start : goal.invariant-folder-loop-start
invariant-folder-loop-start l =
    (l.start ≤ length l.files)
    × (followed_by (pairs_view l.pairs.items)
    (pairs_of_files (drop l.start (files_below l.depth l.files l.attrs l.roots)))
    ≡ pairs_of_files (files_below l.depth l.files l.attrs l.roots))
    × All IsRoot (take l.start l.roots)
