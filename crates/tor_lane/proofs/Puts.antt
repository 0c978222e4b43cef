-- A send keeps the rule of a lane.
use Rattle.std.proofs.Common.{◌≡◌, ◌≢◌, ℕ, zero, suc, ◌+◌, ◌*◌, ◌<◌, ◌≤◌, true, List, [], ◌∷◌, ◌++◌, length, set}
use Rattle.std.proofs.Common.{sym, refl, ap, ◌∙◌, subst, ⊎_elim, append_assoc, arith, IsPermutation}
use Rattle.std.proofs.lemmas.List.{length_push}
use mathlib.Core.Option.{some, some-injective, some-ne-none}
use lib.ListN.{get_elem?}
use Rattle.atomic_table.proofs.Lists.{at_set}
use Rattle.crossbeam_channel.specs.Fifo.{Pushes}
use Rattle.tor_lane.specs.declared.chunk.Chunk.{Chunk}
use Rattle.tor_lane.specs.declared.chunk.Message.{Message}
use Rattle.tor_lane.specs.declared.chunk.Message.TheVariants.{More, Mark}
use Rattle.tor_lane.specs.declared.view.View.{View}
use Rattle.tor_lane.specs.Messages.{messages_of, chunks_in}
use Rattle.tor_lane.specs.Rule.{CanPut, Feeds, IsFed, Keeps, TakesByRight}
use Rattle.tor_lane.specs.Views.{putting}
use Rattle.tor_lane.proofs.Lists.{same_part}
use Rattle.tor_lane.proofs.Messages.{one_chunk_more, one_mark_more}
use Rattle.tor_lane.proofs.Sums.{sum_set}

-- what holds of every end
abbrev pub Each : (ℕ → View → Type 0) → List View → Type 0
Each F views = (at : ℕ) (v : View) → get_elem? views at ≡ some v → F at v

pub each_set : (F : ℕ → View → Type 0) (views : List View) (at : ℕ) (w : View) → F at w
    → ((j : ℕ) (u : View) → j ≢ at → get_elem? views j ≡ some u → F j u) → Each F (set views at w)
each_set F views at w mine others j u e = ⊎_elim
    (λ (x : (j ≡ at) × (w ≡ u)). subst (λ (y : ℕ × View). F y.0 y.1) (λ i. (sym x.0 i, x.1 i)) mine)
    (λ (x : (j ≢ at) × (get_elem? views j ≡ some u)). others j u x.0 x.1) (at_set views at j w u e)

-- the feeder is there after a change of an end, which feeds if it did
pub fed_set : (views : List View) (feeder at : ℕ) (v w : View) → get_elem? views at ≡ some v
    → (v.feeds ≡ true → w.feeds ≡ true) → IsFed feeder views → IsFed feeder (set views at w)
fed_set [] feeder at v w here same fed = absurd (some-ne-none v (sym here))
fed_set (x ∷ xs) zero zero v w here same fed =
    let mine : v ≡ fed.0 = sym (some-injective x v here) ∙ some-injective x fed.0 fed.1 in
    (w, refl, same (ap (λ (u : View). u.feeds) mine ∙ fed.2))
fed_set (x ∷ xs) zero (suc at) v w here same fed = fed
fed_set (x ∷ xs) (suc feeder) zero v w here same fed = fed
fed_set (x ∷ xs) (suc feeder) (suc at) v w here same fed = fed_set xs feeder at v w here same fed

-- where one end feeds, no other does
pub only_one : (put : List Chunk) (ended made : ℕ) (items : List Message) (views : List View) (h : Keeps items views)
    → (at : ℕ) (v : View) → get_elem? views at ≡ some v → v.feeds ≡ true → (j : ℕ) (u : View) → j ≢ at
    → get_elem? views j ≡ some u → Feeds h.feeder put ended made j u
only_one put ended made items views h at v here feeds j u other e p
    = absurd (other ((h.feeds j u e p).0 ∙ sym (h.feeds at v here feeds).0))

-- an end that puts a message
puts_as : (items : List Message) (views : List View) (at : ℕ) (v w : View) (x : Message) (put : List Chunk) (ended : ℕ)
    (h : Keeps items views) → get_elem? views at ≡ some v → v.feeds ≡ true → length items < 2 * v.made → ended ≤ v.made
    → w.feeds ≡ true → messages_of put ended ≡ messages_of h.put h.ended ++ x ∷ []
    → w.put ≡ put → w.ended ≡ ended → w.made ≡ v.made → w.takers ≡ v.takers → w.taken ≡ v.taken → w.marks ≡ v.marks
    → Keeps (items ++ x ∷ []) (set views at w)
puts_as items views at v w x put ended h here feeds short one_each feeds' more put' ended' made' takers' taken' marks' =
    let mine = h.feeds at v here feeds in record {
      feeder = h.feeder;
      fed = fed_set views h.feeder at v w here (λ _. feeds') h.fed;
      put = put;
      ended = ended;
      made = h.made;
      out = h.out;
      order = more ∙ ap (λ y. y ++ x ∷ []) h.order ∙ append_assoc h.out items (x ∷ []);
      chunks = subst (λ y. IsPermutation (chunks_in h.out) y)
          (sym (same_part (λ (u : View). u.taken) views at v w here taken')) h.chunks;
      marks = (let s = sum_set (λ (u : View). u.marks) views at v w here in let m = h.marks in omega (arith, marks'));
      takers = (let s = sum_set (λ (u : View). u.takers) views at v w here in let m = h.takers in
          omega (arith, takers'));
      few = (let n = length_push items x in let m : v.made ≡ h.made = mine.3 in omega (arith, short));
      one_each = (let m : v.made ≡ h.made = mine.3 in omega (arith, one_each));
      feeds = each_set (Feeds h.feeder put ended h.made) views at w (λ _. (mine.0, put', ended', made' ∙ mine.3))
          (only_one put ended h.made items views h at v here feeds);
      rights = each_set (λ _. TakesByRight) views at w
          (let r = h.rights at v here in
          (λ idle. taken' ∙ r.0 (sym takers' ∙ idle), omega (arith, r.1, takers', marks')))
          (λ j u _ e. h.rights j u e);
    }

-- a chunk, while no mark is put; a mark
pub puts : (n at : ℕ) (v : View) (x : Message) → CanPut v x → n ≡ 2 * v.made
    → Pushes Keeps n at v x (λ w. (w ≡ putting v x) × CanPut v x)
puts n at v (More c) can room items views short h here =
    let feeds = can.0 in
    let mine = h.feeds at v here feeds in
    let none : h.ended ≡ 0 = sym mine.2 ∙ can.1 in
    let more : messages_of (h.put ++ c ∷ []) h.ended ≡ messages_of h.put h.ended ++ More c ∷ [] =
    ap (messages_of (h.put ++ c ∷ [])) none ∙ one_chunk_more h.put c
    ∙ ap (λ y. messages_of h.put y ++ More c ∷ []) (sym none) in (
      putting v (More c),
      puts_as items views at v (putting v (More c)) (More c) (h.put ++ c ∷ []) h.ended h here feeds
          (omega (arith, short, room)) (omega arith) feeds more (ap (λ y. y ++ c ∷ []) mine.1) mine.2
          refl refl refl refl,
      (refl, can),
    )
puts n at v Mark can room items views short h here =
    let feeds = can.0 in
    let mine = h.feeds at v here feeds in (
      putting v Mark,
      puts_as items views at v (putting v Mark) Mark h.put (h.ended + 1) h here feeds (omega (arith, short, room))
          (omega (arith, can.1, mine.2)) feeds (one_mark_more h.put h.ended) mine.1 (ap (λ y. y + 1) mine.2)
          refl refl refl refl,
      (refl, can),
    )
