-- one file after the other
use Rattle.std.proofs.Common.{ℕ, List, Option, None, ap, inr, length, refl, subst, sym, ◌∙◌, arith}
use Rattle.std.proofs.lemmas.List.{length-append}
use Rattle.tor_engine.proofs.AskedLengths.{asked_first, asked_more, asked_none}
use Rattle.tor_sums.proofs.FirstOf.{first_of_none}
use Rattle.tor_engine.proofs.GivenAnswers.{each_more}
use Rattle.tor_sums.specs.Given.{HasTold}
use Rattle.tor_engine.specs.PieceFault.{asked_fault}
use Rattle.tor_engine.proofs.pieces.asked.ask_each.Goals as goal

pub files-init : goal.files-init
files-init g c = record {
  counted = ap length c.in_ok-told.ensures.items;
  told = λ file less. absurd (omega (arith, less, ap length c.in_ok-told.ensures.items));
  steady = λ facts steady. (c.in_ok-told.ensures.items, first_of_none (asked_fault facts));
}

pub returns-in-Err-clause-steady : goal.returns-in-Err-clause-steady
returns-in-Err-clause-steady g c = λ facts steady.
    inr (asked_first facts c.files.file c.args.count c.in-Err.error c.files-test.true
    (c.files.invariant.steady facts steady).1 (c.in-Err.ensures.steady facts steady))

pub returns-in-Err-clause-gave : goal.returns-in-Err-clause-gave
returns-in-Err-clause-gave g c = inr (c.in-Err.ensures.gave _ c.files-test.true)

pub files-preserved : goal.files-preserved
files-preserved g c =
    let answers = g.S.Source.answers c.args.source.now in
    let one = subst (λ (n : ℕ). answers.told n c.in-Ok.length) (sym c.files.invariant.counted) c.in-Ok.ensures.told in
    record {
      counted = rw c.in_ok-push-in-Ok.ensures.items (simp length-append (rw c.files.invariant.counted refl));
      told = subst (λ (sizes : List (Option ℕ)). HasTold answers sizes) (sym c.in_ok-push-in-Ok.ensures.items)
          (each_more answers.told c.files.told.items c.in-Ok.length None c.files.invariant.told one);
      steady = λ facts steady.
          let before = c.files.invariant.steady facts steady in
          let told = c.in-Ok.ensures.steady facts steady in (
            c.in_ok-push-in-Ok.ensures.items
                ∙ asked_more facts c.files.told.items c.files.file c.in-Ok.length before.0 told,
            asked_none facts c.files.file c.in-Ok.length before.1 told,
          );
    }
