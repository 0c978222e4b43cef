-- What the takers took, with what is in the channel, is what was put.
use Rattle.std.proofs.Common.{◌≡◌, ℕ, true, List, ◌++◌, sym, ap, ◌∙◌, subst, arith, IsPermutation}
use Rattle.std.proofs.lemmas.List.Sorted.{IsPermutation-append_left}
use mathlib.Core.Option.{some}
use lib.ListN.{get_elem?}
use Rattle.tor_lane.specs.declared.chunk.Message.{Message}
use Rattle.tor_lane.specs.declared.view.View.{View}
use Rattle.tor_lane.specs.Messages.{messages_of, chunks_in, marks_in}
use Rattle.tor_lane.specs.Rule.{IsAllThere, Keeps}
use Rattle.tor_lane.specs.Views.{taken_in_all}
use Rattle.tor_lane.proofs.Messages.{chunks_apart, chunks_put, marks_apart, marks_last, marks_put}

pub whole : (items : List Message) (views : List View) → Keeps items views → (at : ℕ) (v : View)
    → get_elem? views at ≡ some v → v.feeds ≡ true → IsAllThere items views v
whole items views h at v here feeds =
    let mine = h.feeds at v here feeds in
    let put = chunks_put v.put v.ended in
    let order : messages_of v.put v.ended ≡ h.out ++ items =
    (λ i. messages_of (mine.1 i) (mine.2 i)) ∙ h.order in record {
      chunks = subst (λ y. IsPermutation y (taken_in_all views ++ chunks_in items))
          (sym (chunks_apart h.out items) ∙ ap chunks_in (sym order) ∙ put)
          (IsPermutation-append_left (chunks_in items) (chunks_in h.out) (taken_in_all views) h.chunks);
      marks = (let a : marks_in (messages_of v.put v.ended) ≡ marks_in (h.out ++ items) = ap marks_in order in
          let b = marks_put v.put v.ended in let c = marks_apart h.out items in let d = h.marks in omega arith);
      order = (h.out, order, h.chunks);
      last = marks_last v.put v.ended h.out items order;
      few = (let n = h.few in omega (arith, mine.3));
      one_each = (let n = h.one_each in omega (arith, mine.2, mine.3));
      takers = h.takers ∙ sym mine.3;
      rights = h.rights;
    }
