-- one file after the other
use Rattle.std.proofs.Common.{sym, ◌∙◌, arith}
use Rattle.tor_engine.proofs.AskedLengths.{all_again, fails_again, other_size, other_told, same_more}
use Rattle.tor_sums.proofs.FirstOf.{first_of_none}
use Rattle.tor_engine.specs.steps.Asked.{again_fault}
use Rattle.tor_engine.proofs.pieces.asked.expect_each.Goals as goal

pub files-init : goal.files-init
files-init g c = (omega arith, λ facts steady. first_of_none (again_fault facts))

pub files-preserved : goal.files-preserved
files-preserved g c = (
  omega (arith, c.files-test.true),
  λ facts steady.
      same_more facts c.args.told.now c.files.file c.files-test.true (c.files.invariant.1 facts steady)
      c.in-Ok.again (c.in-Ok.ensures.steady facts steady) (sym c.eq.ensures ∙ c.if-eq.true),
)

pub returns-in-Ok-2-clause-steady : goal.returns-in-Ok-2-clause-steady
returns-in-Ok-2-clause-steady g c = λ facts steady.
    other_told facts c.args.told.now c.files.file c.files-test.true (c.files.invariant.1 facts steady) c.in-Ok.again
    (c.in-Ok.ensures.steady facts steady) (sym c.eq.ensures ∙ c.if-eq.false)

pub returns-in-Ok-2-clause-gave : goal.returns-in-Ok-2-clause-gave
returns-in-Ok-2-clause-gave g c = (
  (c.in-Ok.again, c.in-Ok.ensures.told, other_size c.in-Ok.again _ (sym c.eq.ensures ∙ c.if-eq.false)),
  c.files-test.true,
)

pub returns-in-Err-clause-steady : goal.returns-in-Err-clause-steady
returns-in-Err-clause-steady g c = λ facts steady.
    fails_again facts c.args.told.now c.files.file c.files-test.true (c.files.invariant.1 facts steady) c.in-Err.error
    (c.in-Err.ensures.steady facts steady)

pub returns-clause-steady : goal.returns-clause-steady
returns-clause-steady g c = λ facts steady.
    all_again facts c.args.told.now c.files.file c.files-test.false (c.files.invariant.1 facts steady)
