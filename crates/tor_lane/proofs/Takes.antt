-- A receive keeps the rule of a lane.
use Rattle.std.proofs.Common.{◌≡◌, ℕ, suc, ◌*◌, ◌≤◌, List, [], ◌∷◌, ◌++◌, length, set, sym, refl, ◌∙◌}
use Rattle.std.proofs.Common.{subst, append_assoc, append-nil, arith, IsPermutation}
use mathlib.Core.Option.{some}
use lib.ListN.{get_elem?}
use Rattle.crossbeam_channel.specs.Fifo.{Pops}
use Rattle.tor_lane.specs.declared.chunk.Chunk.{Chunk}
use Rattle.tor_lane.specs.declared.chunk.Message.{Message}
use Rattle.tor_lane.specs.declared.chunk.Message.TheVariants.{More, Mark}
use Rattle.tor_lane.specs.declared.view.View.{View}
use Rattle.tor_lane.specs.Messages.{chunks_in, marks_in}
use Rattle.tor_lane.specs.Rule.{CanTake, Feeds, Keeps, TakesByRight}
use Rattle.tor_lane.specs.Views.{marks_in_all, taken_in_all, taking}
use Rattle.tor_lane.proofs.Lists.{one_more, same_part}
use Rattle.tor_lane.proofs.Messages.{chunks_apart, marks_apart}
use Rattle.tor_lane.proofs.Puts.{each_set, fed_set}
use Rattle.tor_lane.proofs.Sums.{sum_set}

-- an end that takes a message
takes_as : (items : List Message) (views : List View) (at : ℕ) (v w : View) (x : Message) (h : Keeps (x ∷ items) views)
    → get_elem? views at ≡ some v → CanTake v → w.marks ≤ 1
    → w.feeds ≡ v.feeds → w.put ≡ v.put → w.ended ≡ v.ended → w.made ≡ v.made → w.takers ≡ v.takers
    → IsPermutation (chunks_in (h.out ++ x ∷ [])) (taken_in_all (set views at w))
    → marks_in (h.out ++ x ∷ []) ≡ marks_in_all (set views at w) → Keeps items (set views at w)
takes_as items views at v w x h here can one feeds' put' ended' made' takers' chunks marks = record {
  feeder = h.feeder;
  fed = fed_set views h.feeder at v w here (λ p. feeds' ∙ p) h.fed;
  put = h.put;
  ended = h.ended;
  made = h.made;
  out = h.out ++ x ∷ [];
  order = h.order ∙ sym (append_assoc h.out (x ∷ []) items);
  chunks = chunks;
  marks = marks;
  takers = (let s = sum_set (λ (u : View). u.takers) views at v w here in let m = h.takers in omega (arith, takers'));
  few = (let n : suc (length items) ≤ 2 * h.made = h.few in omega arith);
  one_each = h.one_each;
  feeds = each_set (Feeds h.feeder h.put h.ended h.made) views at w
      (λ p. let r = h.feeds at v here (sym feeds' ∙ p) in (r.0, put' ∙ r.1, ended' ∙ r.2, made' ∙ r.3))
      (λ j u _ e. h.feeds j u e);
  rights = each_set (λ _. TakesByRight) views at w
      (λ idle. absurd (omega (arith, can.1, takers', idle)), omega (arith, can.1, takers', one))
      (λ j u _ e. h.rights j u e);
}

pub takes : (at : ℕ) (v : View) → CanTake v → Pops Keeps at v (λ x w. (w ≡ taking v x) × CanTake v)
takes at v can (More c) items views h here =
    let w : View = taking v (More c) in (
      w,
      takes_as items views at v w (More c) h here can (omega (arith, can.2)) refl refl refl refl refl
          (subst (λ y. IsPermutation y (taken_in_all (set views at w))) (sym (chunks_apart h.out (More c ∷ [])))
          (one_more (λ (u : View). u.taken) (chunks_in h.out) c views at v w here refl h.chunks))
          (let s = sum_set (λ (u : View). u.marks) views at v w here in let m = h.marks in
          let one : marks_in (More c ∷ []) ≡ 0 = refl in omega (arith, marks_apart h.out (More c ∷ []))),
      (refl, can),
    )
takes at v can Mark items views h here =
    let w : View = taking v Mark in (
      w,
      takes_as items views at v w Mark h here can (omega (arith, can.2)) refl refl refl refl refl
          (subst (λ (y : List Chunk × List Chunk). IsPermutation y.0 y.1)
          (λ i. (
            sym (chunks_apart h.out (Mark ∷ []) ∙ append-nil (chunks_in h.out)) i,
            sym (same_part (λ (u : View). u.taken) views at v w here refl) i,
          )) h.chunks)
          (let s = sum_set (λ (u : View). u.marks) views at v w here in let m = h.marks in
          let one : marks_in (Mark ∷ []) ≡ 1 = refl in omega (arith, marks_apart h.out (Mark ∷ []))),
      (refl, can),
    )
