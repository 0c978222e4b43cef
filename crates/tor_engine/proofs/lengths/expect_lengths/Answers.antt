-- the first that differs, or all that were planned
use Rattle.std.proofs.Common.{ℕ, List, Option, Some, ap, get_or, inl, length, subst, sym, unwrap_or, ◌∙◌, arith}
use Rattle.tor_sums.proofs.Change.{change_told, none_changed}
use Rattle.tor_sums.specs.Given.{HasToldLengths}
use Rattle.tor_engine.proofs.lengths.expect_lengths.Goals as goal

pub returns-in-Some-clause-gave : goal.returns-in-Some-clause-gave
returns-in-Some-clause-gave g c =
    let told = c.in_ok-told.ensures.told in
    let same = c.deref.ensures.value in
    let found = change_told c.deref.result.now c.args.planned.now c.in-Some.file
    (sym c.first_change.ensures ∙ c.in-Some.is) in (
      inl (
        Some _,
        told c.in-Some.file (omega (arith, found.0, ap length same)),
        λ equal. found.2 (ap (λ xs. get_or xs c.in-Some.file 0) same
            ∙ ap (λ (size : Option ℕ). unwrap_or size 0) equal),
      ),
      found.1,
    )

pub returns-clause-told : goal.returns-clause-told
returns-clause-told g c =
    subst (λ (lengths : List ℕ). HasToldLengths (g.S.Source.answers c.args.source.now) lengths)
    (sym c.deref.ensures.value ∙ none_changed 0 c.deref.result.now c.args.planned.now
    (ap length c.deref.ensures.value ∙ c.in_ok-told.ensures.counted) (sym c.first_change.ensures ∙ c.in-None.is))
    c.in_ok-told.ensures.told
