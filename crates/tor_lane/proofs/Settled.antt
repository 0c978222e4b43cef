-- What the feeder knows once it has learned what each of its takers did: where each took its mark, nothing is left.
use Rattle.std.proofs.Common.{◌≡◌, ℕ, ◌+◌, ◌-◌, ◌<◌, true, List, ◌++◌, sym, ap, ◌∙◌, subst, append-nil, arith}
use Rattle.std.proofs.Common.{IsPermutation}
use Rattle.std.specs.List.{sum_by}
use Rattle.crossbeam_channel.specs.Fifo.{Learns}
use Rattle.tor_lane.specs.declared.chunk.Message.{Message}
use Rattle.tor_lane.specs.declared.view.View.{View}
use Rattle.tor_lane.specs.Messages.{messages_of, chunks_in, marks_in}
use Rattle.tor_lane.specs.Rule.{Keeps}
use Rattle.tor_lane.specs.steps.Ends.{Settles}
use Rattle.tor_lane.proofs.Messages.{chunks_put, marks_put, marks_apart, none_behind, one_mark_more}
use Rattle.tor_lane.proofs.Sums.{alone, alone_sum}

pub settles : (at : ℕ) (v : View) → v.feeds ≡ true → v.takers ≡ v.made → Learns Keeps at v (Settles v)
settles at v feeds all items views h here =
    let mine = h.feeds at v here feeds in
    let whole : sum_by (λ (u : View). u.takers) views ≡ v.takers = h.takers ∙ sym mine.3 ∙ sym all in (
      h.out,
      (λ i. messages_of (mine.1 i) (mine.2 i)) ∙ h.order,
      subst (λ y. IsPermutation (chunks_in h.out) y) (alone (λ (u : View). u.takers) (λ (u : View). u.taken) views at v
          here whole (λ j u e. (h.rights j u e).0)) h.chunks,
      h.marks ∙ alone_sum (λ (u : View). u.takers) (λ (u : View). u.marks) views at v here whole
          (λ j u e idle. (let r = (h.rights j u e).1 in omega (arith, idle))),
    )

pub settled : (v : View) (items : List Message) → Settles v items → 0 < v.ended → v.marks ≡ v.ended
    → IsPermutation v.put v.taken
settled v items s some_mark all =
    let a : marks_in (messages_of v.put v.ended) ≡ marks_in (s.0 ++ items) = ap marks_in s.1 in
    let b = marks_put v.put v.ended in
    let c = marks_apart s.0 items in
    let d = s.3 in
    let unmarked : marks_in items ≡ 0 = omega arith in
    let whole : v.ended - 1 + 1 ≡ v.ended = omega arith in
    let gone = none_behind (messages_of v.put (v.ended - 1)) s.0 items
    (sym (one_mark_more v.put (v.ended - 1)) ∙ ap (messages_of v.put) whole ∙ s.1) unmarked in
    let same : s.0 ≡ messages_of v.put v.ended = sym (append-nil s.0) ∙ ap (λ y. s.0 ++ y) (sym gone) ∙ sym s.1 in
    subst (λ y. IsPermutation y v.taken) (ap chunks_in same ∙ chunks_put v.put v.ended) s.2
