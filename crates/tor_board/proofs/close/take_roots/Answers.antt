-- One slot after another is taken, and the trees whose root's slots they are.
use Rattle.std.proofs.lemmas.Grind.{common_steps}
use Rattle.{std.proofs.Common.{Global, Vec}, tor_board.proofs.Finding.{same_at, some_height, top_node, top_word}}
use Rattle.tor_board.proofs.{Finding.tree_there, Meets.tree_facts, Names.{Bool, IsLeft, IsShape, List, None, Option}}
use Rattle.tor_board.proofs.Names.{Shape, Some, Tree, [], ap, arith, dite, false, get_elem?, get_or, get_or-set_other}
use Rattle.tor_board.proofs.Names.{get_or-set_same, inl, inr, length, length-set, middle, pow_mono, refl, set}
use Rattle.tor_board.proofs.Names.{set-get_or, slot_of, slots_filled, slots_items, slots_len, some, some-injective}
use Rattle.tor_board.proofs.Names.{suc, sym, true, word_of, zero, ℕ, ℕ_discrete}
use Rattle.tor_board.proofs.Names.{◌*◌, ◌+◌, ◌-◌, ◌<◌, ◌∙◌, ◌∷◌, ◌≡◌, ◌≢◌, ◌≤◌}
use Rattle.tor_board.proofs.{Sums.within, close.take_roots.Goals.{else-next-len, else-next-len-via-else-next-len}}
use Rattle.tor_board.proofs.close.take_roots.Goals.{else-next-len-via-then-next-len+else-side_slot-slot, else-word-ge2}
use Rattle.tor_board.proofs.close.take_roots.Goals.{then-next-len+then-side_slot-slot, then-word-ge2}
use Rattle.tor_board.proofs.close.take_roots.Goals as goal

off_here : (l : List Bool) (i : ℕ) → get_or (set l i false) i false ≡ false
off_here [] i = refl
off_here (x ∷ l) zero = refl
off_here (x ∷ l) (suc i) = off_here l i

taken_more : (l : List Bool) (slot : ℕ) → ((k : ℕ) → k < slot → get_or l k false ≡ false) → (k : ℕ) → k < slot + 1
    → get_or (set l slot false) k false ≡ false
taken_more l slot taken k h = grind (arith, off_here l slot, get_or-set_other l slot k false false, taken k)

module _ {words slots : ℕ} {shape : Shape} (shaped : IsShape words slots shape) (slot next : ℕ)
    (later : (k : ℕ) (t : Tree) → get_elem? shape.trees.items k ≡ some t → next ≤ k → slot ≤ 2 * t.offset) where
  later_match : (u : Tree) → get_elem? shape.trees.items next ≡ some u → slot_of u 0 0 ≡ slot → (k : ℕ) (t : Tree)
      → get_elem? shape.trees.items k ≡ some t → next + 1 ≤ k → slot + 1 ≤ 2 * t.offset
  later_match u e here k t f le = grind arith

  later_miss : (u : Tree) → get_elem? shape.trees.items next ≡ some u → slot_of u 0 0 ≢ slot → (k : ℕ) (t : Tree)
      → get_elem? shape.trees.items k ≡ some t → next ≤ k → slot + 1 ≤ 2 * t.offset
  later_miss u e ne k t f le = grind arith

  -- the root of the next tree is put in
  done_next : (ws : List ℕ) (xs : List (List ℕ)) (roots : List (Option (List ℕ))) (root : Option (List ℕ))
      (u : Tree) → get_elem? shape.trees.items next ≡ some u → next < length roots
      → ((k : ℕ) (t : Tree) → get_elem? shape.trees.items k ≡ some t → k < next → IsLeft ws xs t (get_or roots k None))
      → IsLeft ws xs u root → (k : ℕ) (t : Tree) → get_elem? shape.trees.items k ≡ some t → k < next + 1
      → IsLeft ws xs t (get_or (set roots next root) k None)
  done_next ws xs roots root u e inside done left k t f h = dite (ℕ_discrete k next) (λ is.
      let same : t ≡ u = same_at shaped k next t u f e is in
      let here : get_or (set roots next root) k None ≡ root = rw is (get_or-set_same roots next root None inside) in
      rw (same, here) left)
      (λ ne. rw (get_or-set_other roots next k root None (λ is. ne is)) (done k t f (omega arith)))

pub side_slot-requires : goal.side_slot-requires
side_slot-requires c =
    let there = tree_there c.requires.shape _ _ (omega (arith, c.if-next-len.true, c.len.ensures)) c.index.ensures in
    ((tree_facts c.requires.shape _ there.1).1, omega arith, omega arith)

pub overflow_sub-tree : goal.overflow_sub-tree
overflow_sub-tree c = let there = tree_there c.requires.shape _ _ (omega (arith, c.if-next-len.true, c.len.ensures))
    c.index-then-side_slot-slot.ensures in omega (arith, some_height c.requires.shape _ there.1)

pub middle-requires : goal.middle-requires
middle-requires c = let there = tree_there c.requires.shape _ _ (omega (arith, c.if-next-len.true, c.len.ensures))
    c.index-then-side_slot-slot.ensures in grind (arith, c.requires.shape.fits _ there.1, pow_mono)

pub word-requires : goal.word-requires
word-requires c = let there = tree_there c.requires.shape _ _ (omega (arith, c.if-next-len.true, c.len.ensures))
    c.index-then-side_slot-slot.ensures in
    let top = top_node c.requires.shape _ there.1 in let fits = c.requires.shape.fits _ there.1 in
    let facts = tree_facts c.requires.shape _ there.1 in
    (facts.1, omega (arith, c.middle.ensures, fits.below, c.requires.shape.small))

pub word-requires-then-side_slot-slot : goal.word-requires-then-side_slot-slot
word-requires-then-side_slot-slot c =
    let there = tree_there c.requires.shape _ _ (omega (arith, c.if-next-len.true, c.len.ensures))
    c.index-then-side_slot-slot.ensures in let same = c.take-hash.ensures.others.3 ∙ c.slots.invariant.words in
    let top = top_word c.requires.shape _ there.1 in
    (rw (same, c.word.ensures, c.middle.ensures) top, rw same c.requires.full.0)

pub slots-preserved : goal.slots-preserved
slots-preserved c = let i = c.slots.invariant in let o = c.take-hash.ensures.others in
    let slot = c.slots.slot in let next = c.slots.next in let trees = c.args.shape.now.trees.items in
    let ws = slots_items c.args.ended.now.words in let xs = slots_items c.args.ended.now.slots in
    let filled = slots_filled c.slots.ended.slots in
    let rest : (k : ℕ) → slot + 1 ≤ k → k < slots_len c.take-hash.new.self.slots
    → get_or (slots_filled c.take-hash.new.self.slots) k false ≡ true
    = λ k low h. rw o.1 (get_or-set_other filled slot k false false (λ e. omega arith)
    ∙ i.rest k (omega arith) (omega (arith, o.2))) in
    let taken : (k : ℕ) → k < slot + 1 → get_or (slots_filled c.take-hash.new.self.slots) k false ≡ false
    = λ k h. rw o.1 (taken_more filled slot i.taken k h) in elim c.if-next-len.branch [
      | then-next-len+then-side_slot-slot w ↦
          let less : next < length trees = omega (arith, w.if-next-len.true, c.len.ensures) in
          let u = w.index.result.now in let t = w.index-then-side_slot-slot.result.now in
          let there = tree_there c.requires.shape next u less w.index.ensures in
          let there2 = tree_there c.requires.shape next t less w.index-then-side_slot-slot.ensures in
          let same : u ≡ t = some-injective u t (sym there.0 ∙ there2.0) in
          let here : slot_of u 0 0 ≡ slot = sym w.side_slot.ensures ∙ w.if-side_slot-slot.true in
          let words_are = o.3 ∙ i.words in
          let index : w.word.result ≡ word_of t (middle (t.height - 1) 0) = grind arith in
          let found : get_elem? ws (word_of t (middle (t.height - 1) 0)) ≡ some w.word-then-side_slot-slot.result
          = (λ j. get_elem? (slots_items (sym words_are j)) (sym index j)) ∙ w.word-then-side_slot-slot.ensures in
          let value : get_elem? xs (slot_of t 0 0) ≡ some c.take-hash.result = grind arith in
          let last : c.if-next-len.next ≡ next + 1 = w.next-is in
          let later = later_match c.requires.shape slot next i.later u there.0 here in
          let roots = c.slots.roots.items in
          let put : (root : Option (List ℕ)) × (c.if-next-len.roots.items ≡ set roots next root) × IsLeft ws xs t root
          = elim w.if-word-ge2.branch [
            | then-word-ge2 w' ↦ let root = Some c.take-hash.result in let many = w'.if-word-ge2.true in
                let is = ap (λ (v : Vec (Option (List ℕ)) Global). v.items) (w.roots-is ∙ w'.roots-is) in
                (root, is, (w.word-then-side_slot-slot.result, found, inl (omega (arith, many), (_, value, refl))))
            | else-word-ge2 w' ↦ let is = ap (λ (v : Vec (Option (List ℕ)) Global). v.items) (w.roots-is ∙ w'.roots-is)
                ∙ sym (set-get_or roots next None) in
                let none = i.empty next (omega arith) in let few = w'.if-word-ge2.false in
                (get_or roots next None, is, (w.word-then-side_slot-slot.result, found, inr (omega (arith, few), none)))
          ] in record {
            rest = rest;
            taken = taken;
            items = o.0 ∙ i.items;
            long = o.2 ∙ i.long;
            words = words_are;
            end = omega arith;
            later = λ k x e le. later k x e (omega arith);
            done = λ k x e lt. rw put.1 (done_next c.requires.shape slot next i.later ws xs roots put.0 t there2.0
                (omega (arith, i.count)) i.done put.2 k x e (omega arith));
            empty = λ k le. rw (put.1, get_or-set_other roots next k put.0 None (λ is. omega arith))
                (i.empty k (omega arith));
            count = rw (put.1, length-set roots next put.0) i.count;
          }
      | else-next-len w ↦ let roots_are : c.if-next-len.roots.items ≡ c.slots.roots.items = grind arith in
          let last : c.if-next-len.next ≡ next = w.next-is in
          let later : (k : ℕ) (x : Tree) → get_elem? trees k ≡ some x → next ≤ k → slot + 1 ≤ 2 * x.offset
          = elim w.else-next-len.branch [
            | else-next-len-via-then-next-len+else-side_slot-slot w' ↦
                let there = tree_there c.requires.shape next w'.index.result.now
                (omega (arith, w'.if-next-len.true, c.len.ensures)) w'.index.ensures in
                later_miss c.requires.shape slot next i.later w'.index.result.now there.0
                (λ e. w'.if-side_slot-slot.false (w'.side_slot.ensures ∙ e))
            | else-next-len-via-else-next-len w' ↦ λ k x e le.
                omega (arith, within trees k x e, w'.if-next-len.false, c.len.ensures)
          ] in record {
            rest = rest;
            taken = taken;
            items = o.0 ∙ i.items;
            long = o.2 ∙ i.long;
            words = o.3 ∙ i.words;
            end = omega (arith, i.end);
            later = λ k x e le. later k x e (omega arith);
            done = λ k x e lt. rw roots_are (i.done k x e (omega arith));
            empty = λ k le. rw roots_are (i.empty k (omega arith));
            count = rw roots_are i.count;
          }
    ]

pub slots-init : goal.slots-init
slots-init c = grind (arith, common_steps)
