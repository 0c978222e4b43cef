-- one piece after the other
use Rattle.tor_recheck.proofs.Names.{[], ◌∙◌, ap, ap₂, drop, is_found, length, run_at, take, unwrap_or, zero-add}
use Rattle.tor_recheck.proofs.JudgedTo.{judged_to_end, next_hash, next_told, one_more}
use Rattle.tor_recheck.proofs.Sums.{first_sum, later_sums, next_sums}
use Rattle.tor_recheck.proofs.piece_bits.verified_bits.Goals as goal

pub judging-init : goal.judging-init
judging-init c = (
  record {
    count = 0;
    judged = c.in_ok-bits.ensures;
    later = c.each-left.ensures;
    later_told = c.of-told.ensures;
    counted = zero-add _ ∙ ap length c.each-left.ensures;
  },
  c.pieces-sums.ensures,
)

pub judging-preserved : goal.judging-preserved
judging-preserved c =
    let pieces = c.args.torrent.now.pieces in
    let before = c.judging.invariant.0 in
    let sums = c.judging.sums.now in
    let hash = c.in-Some.hash in
    let others = c.next.new.self in
    let sum = c.split_at.ensures.front ∙ ap (λ k. take k sums) c.min.ensures ∙ first_sum sums 20
    ∙ ap (take 20) c.judging.invariant.1 in
    let found = c.is_found.ensures
    ∙ ap (λ text. is_found hash text (unwrap_or c.next-in-Some.result [])) sum
    ∙ ap₂ (λ one root. is_found one (run_at 20 pieces before.count) root)
    (next_hash before hash others c.in-Some.ensures) (c.next-in-Some.ensures.hash ∙ next_told before) in (
      one_more before hash others c.in-Some.ensures c.is_found.result c.push.new.self c.next-in-Some.new.self
          c.in_ok-push.ensures.ok c.next-in-Some.ensures.later found,
      c.split_at.ensures.back ∙ ap (λ k. drop k sums) c.min.ensures ∙ later_sums sums 20
          ∙ ap (drop 20) c.judging.invariant.1 ∙ next_sums pieces before.count,
    )

pub returns : goal.returns
returns c = judged_to_end c.judging.invariant.0 c.in_default.ensures.0
