-- one file after the other
use Rattle.std.proofs.Common.{ℕ, List, Some, ap, inr, length, refl, subst, sym, arith}
use Rattle.std.proofs.lemmas.List.{length-append}
use Rattle.tor_engine.proofs.GivenAnswers.{each_more}
use Rattle.tor_engine.proofs.Told.{told_none, told_more, told_fault}
use Rattle.tor_sums.specs.Given.{HasToldLengths}
use Rattle.tor_engine.proofs.lengths.ask_lengths.Goals as goal

pub files-init : goal.files-init
files-init g c = record {
  counted = ap length c.in_ok-lengths.ensures.items;
  told = λ file less. absurd (omega (arith, less, ap length c.in_ok-lengths.ensures.items));
  steady = λ facts steady. rw c.in_ok-lengths.ensures.items (told_none facts);
}

pub returns-in-Err-clause-steady : goal.returns-in-Err-clause-steady
returns-in-Err-clause-steady g c = λ facts steady.
    inr (told_fault facts c.files.lengths.items c.files.file c.args.count _ c.files-test.true
    (c.files.invariant.steady facts steady) (c.in-Err.ensures.steady facts steady))

pub returns-in-Err-clause-gave : goal.returns-in-Err-clause-gave
returns-in-Err-clause-gave g c = c.in-Err.ensures.gave c.args.count c.files-test.true

pub files-preserved : goal.files-preserved
files-preserved g c =
    let answers = g.S.Source.answers c.args.source.now in
    let one = subst (λ (n : ℕ). answers.told n (Some c.in-Ok.length)) (sym c.files.invariant.counted) c.in-Ok.ensures.told in
    record {
      counted = rw c.in_ok-push-in-Ok.ensures.items (simp length-append (rw c.files.invariant.counted refl));
      told = subst (λ (lengths : List ℕ). HasToldLengths answers lengths) (sym c.in_ok-push-in-Ok.ensures.items)
          (each_more (λ file size. answers.told file (Some size)) c.files.lengths.items c.in-Ok.length 0
          c.files.invariant.told one);
      steady = λ facts steady.
          rw c.in_ok-push-in-Ok.ensures.items (told_more facts c.files.lengths.items c.files.file _
          (c.files.invariant.steady facts steady) (c.in-Ok.ensures.steady facts steady));
    }
