use Rattle.tor_tree.proofs.Cited.{◌≡◌, ◌<◌, ◌++◌, true, map, drop, ref_pairs_view, are_entries, entries_in}
use Rattle.tor_tree.proofs.Cited.{takes_memory_in}
use Rattle.tor_tree.proofs.Cited.{entry_at}
use Rattle.tor_tree.proofs.entries.+walk.Given as goal

-- the files of the pairs that are left are still to be added, the tree has its shape if what is left has, and the first
-- of them had its shape
abbrev pub invariant-add_folder-loop-key : goal.invariant-add_folder-loop-key
invariant-add_folder-loop-key l =
    (l.folder.items ≡ l.initial.folder.items)
    × (l.entries.items
    ++ map (entry_at l.initial.folder.items) (entries_in (ref_pairs_view (drop l.key-index l.key-items)))
    ≡ l.initial.entries.items ++ map (entry_at l.initial.folder.items) (entries_in (ref_pairs_view l.key-items)))
    × (are_entries (ref_pairs_view (drop l.key-index l.key-items)) ≡ are_entries (ref_pairs_view l.key-items))
    × (0 < l.key-index → takes_memory_in (ref_pairs_view l.key-items) ≡ true)
