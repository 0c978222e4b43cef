-- one file after the other
use Rattle.std.proofs.Common.{◌≡◌, ◌++◌, List, None, ap, ap₂, length, subst, sym, ◌∙◌}
use Rattle.std.specs.List.{AllByRecursion}
use Rattle.tor_sums.specs.Given.{IsGivenPieces}
use Rattle.tor_sums.proofs.PartReads.{all_append}
use Rattle.tor_engine.specs.Readable.{error_of_fault}
use Rattle.tor_engine.specs.steps.Readable.{listed}
use Rattle.tor_engine.proofs.SeenLengths.{told_again}
use Rattle.tor_engine.proofs.pieces.asking.expect_readable.Goals as goal

pub returns-in-Err-clause-refused : goal.returns-in-Err-clause-refused
returns-in-Err-clause-refused g c = λ facts steady are.
    let never = c.in-Err.ensures.steady facts steady
    (λ some. told_again facts c.args.told.now c.files.file c.files-test.true are some) in
    cc

pub files-preserved : goal.files-preserved
files-preserved g c =
    let answers = g.S.Source.answers c.args.source.now in
    let count = length c.args.told.now in
    record {
      given = subst (λ (faults : List _). AllByRecursion
          (λ fault. IsGivenPieces answers count (error_of_fault fault)) faults) (sym c.in_ok-add_fault.ensures)
          (all_append (λ fault. IsGivenPieces answers count (error_of_fault fault)) c.files.lost.items
          (listed c.in-Ok.found) c.files.invariant.given (c.in-Ok.ensures.given count c.files-test.true));
      steady = λ facts steady are.
          let told = c.in-Ok.ensures.steady facts steady
          (λ some. told_again facts c.args.told.now c.files.file c.files-test.true are some) in
          let none : c.in-Ok.found ≡ None = cc in
          c.in_ok-add_fault.ensures
          ∙ ap₂ (λ xs ys. xs ++ ys) (c.files.invariant.steady facts steady are) (ap listed none);
    }
