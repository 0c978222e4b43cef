-- the slots so far are taken, and the roots of the trees whose slots they are are there
use Rattle.{std.specs.Mem.Slots.Ownership.Filled, tor_board.proofs.Names.{IsLeft, None, Tree, false, get_elem?, get_or}}
use Rattle.tor_board.proofs.Names.{length, slots_filled, slots_items, slots_len, some, ℕ, ◌*◌, ◌<◌, ◌≡◌, ◌≤◌}
use Rattle.tor_board.proofs.close.take_roots.Given as goal

abbrev pub invariant-slots : goal.invariant-slots
invariant-slots l = record {
  rest : Filled (slots_filled l.ended.slots) l.slot (slots_len l.ended.slots);
  taken : (k : ℕ) → k < l.slot → get_or (slots_filled l.ended.slots) k false ≡ false;
  items : slots_items l.ended.slots ≡ slots_items l.fn.ended.slots;
  long : slots_len l.ended.slots ≡ slots_len l.fn.ended.slots;
  words : l.ended.words ≡ l.fn.ended.words;
  end : l.next ≤ length l.shape.trees.items;
  later : (k : ℕ) (t : Tree) → get_elem? l.shape.trees.items k ≡ some t → l.next ≤ k → l.slot ≤ 2 * t.offset;
  done : (k : ℕ) (t : Tree) → get_elem? l.shape.trees.items k ≡ some t → k < l.next
      → IsLeft (slots_items l.fn.ended.words) (slots_items l.fn.ended.slots) t (get_or l.roots.items k None);
  empty : (k : ℕ) → l.next ≤ k → get_or l.roots.items k None ≡ None;
  count : length l.roots.items ≡ length l.shape.trees.items;
}
