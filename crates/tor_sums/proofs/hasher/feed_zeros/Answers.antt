-- no zero, a run more, and all
use Rattle.std.proofs.Common.{◌≡◌, ◌≤◌, ◌+◌, ◌-◌, arith, length, subst, sym, ℕ}
use Rattle.std.proofs.lemmas.Bool.{false≢true}
use Rattle.std.specs.Int.{div_ceil}
use Rattle.tor_v1.specs.Feeding.{Feeds}
use Rattle.tor_v1.specs.Piece.{zeros}
use Rattle.tor_sums.proofs.Zeros.{feeds_none, feeds_more, if_err, length_with_zeros, some_begin_none}
use Rattle.tor_sums.proofs.hasher.feed_zeros.Goals as goal

pub runs-init : goal.runs-init
runs-init c = record {
  within = omega arith;
  fed = feeds_none c.args.pieces.now (c.args.count - c.args.count) (omega arith);
}

pub runs-preserved : goal.runs-preserved
runs-preserved c =
    let count = c.args.count in
    let left = c.runs.left in
    let width = c.min-width.result in
    record {
      within = omega (arith, c.runs.invariant.within);
      fed = feeds_more c.args.pieces.now c.runs.pieces c.feed_zeros.new.self (count - left) width
          (count - (left - width))
          (omega (arith, c.runs.invariant.within, c.min-width.ensures)) c.runs.invariant.fed
          c.in_ok-feed_zeros.ensures.ok;
    }

pub returns-in_err-feed_zeros-clause-left : goal.returns-in_err-feed_zeros-clause-left
returns-in_err-feed_zeros-clause-left c =
    if_err c.from_residual.result (
      c.args.count - c.runs.left,
      omega (arith, c.runs.invariant.within, c.runs-test.true),
      λ p bytes given. c.in_err-feed_zeros.ensures.err p _ (c.runs.invariant.fed p bytes given),
    )

pub returns-clause-fed : goal.returns-clause-fed
returns-clause-fed c =
    subst (λ (n : ℕ). Feeds c.args.pieces.now c.runs.pieces (zeros n))
    (let e : c.args.count - c.runs.left ≡ c.args.count = omega (arith, c.runs-test.false) in e) c.runs.invariant.fed

pub returns-in_err-feed_zeros-clause-within : goal.returns-in_err-feed_zeros-clause-within
returns-in_err-feed_zeros-clause-within c = λ p bytes given none.
    let count = c.args.count in
    let done = count - c.runs.left in
    let width = c.min-width.result in
    let fed = c.runs.invariant.fed p bytes given in
    let pos = subst (λ (n : ℕ). 1 ≤ n) fed.cut_every c.runs.pieces.allowed.0 in
    let few = some_begin_none (length bytes) done width count p pos
    (omega (arith, c.runs.invariant.within, c.min-width.ensures)) none in
    absurd (false≢true (c.in_err-feed_zeros.ensures.within p _ fed
    (subst (λ (n : ℕ). div_ceil (n + width) p ≤ div_ceil n p) (sym (length_with_zeros bytes done)) few)))
