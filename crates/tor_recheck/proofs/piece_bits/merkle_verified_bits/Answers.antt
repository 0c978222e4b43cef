-- one piece after the other
use Rattle.tor_recheck.proofs.Names.{◌∙◌, ap, ap₂, length, zero-add, is_merkle_found}
use Rattle.tor_recheck.proofs.JudgedTo.{judged_to_end, next_hash, next_told, one_more}
use Rattle.tor_recheck.proofs.piece_bits.merkle_verified_bits.Goals as goal

pub judging-init : goal.judging-init
judging-init c = record {
  count = 0;
  judged = c.in_ok-held.ensures;
  later = c.each-left.ensures;
  later_told = c.of-told.ensures;
  counted = zero-add _ ∙ ap length c.each-left.ensures;
}

pub judging-preserved : goal.judging-preserved
judging-preserved c =
    let before = c.judging.invariant in
    let hash = c.in-Some.hash in
    let others = c.next.new.self in
    one_more before hash others c.in-Some.ensures c.is_merkle_found.result c.push.new.self c.next-in-Some.new.self
    c.in_ok-push.ensures.ok c.next-in-Some.ensures.later
    (c.is_merkle_found.ensures
    ∙ ap₂ is_merkle_found (next_hash before hash others c.in-Some.ensures)
    (c.next-in-Some.ensures.hash ∙ next_told before))

pub returns : goal.returns
returns c = judged_to_end c.judging.invariant c.in_default.ensures.0
