use Rattle.std.proofs.Common.{◌≡◌, [], ◌∷◌, arith, sym, subst}
use Rattle.std.proofs.lemmas.List.Sorted.{IsPermutation-reverse}
use Rattle.std.specs.Result.{IfOk}
use Rattle.tor_merkle.proofs.ProvedLaws.{height_least}
use Rattle.tor_plan.specs.declared.forests.Run.{Run}
use Rattle.tor_board.proofs.ProvedLaws.{moved_runs_are_apart, rising_runs_are_apart}
use Rattle.tor_board.specs.Shapes.{AreApart}
use Rattle.tor_plan.specs.Forest.{AreRuns}
use Rattle.tor_tests_low.proofs.board.shared.falling_trees.Goals as goal

abbrev first : Run
first = record { first = 1; count = 2; level = 0 }

abbrev last : Run
last = record { first = 4; count = 3; level = 1 }

in_order : AreRuns 7 0 (first ∷ last ∷ [])
unfolding AreRuns
in_order = (
  omega arith,
  omega arith,
  omega arith,
  omega (arith, height_least 2 1 (omega arith)),
  (omega arith, omega arith, omega arith, omega (arith, height_least 3 2 (omega arith)), tt),
)

falling : AreApart 7 (last ∷ first ∷ [])
falling = moved_runs_are_apart 7 (first ∷ last ∷ []) (last ∷ first ∷ []) (rising_runs_are_apart 7 0 _ in_order)
    (IsPermutation-reverse (first ∷ last ∷ []))

pub open-requires-clause-runs : goal.open-requires-clause-runs
open-requires-clause-runs g c =
    let e : c.expect-trees.result.items ≡ last ∷ first ∷ []
    = subst (λ r. IfOk r (λ v. v.items ≡ last ∷ first ∷ [])) c.expect-trees.ensures c.vec.ensures.items in
    subst (AreApart 7) (sym e) falling
