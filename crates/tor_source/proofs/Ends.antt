-- A place that does or does not end in a slash.
use Rattle.std.proofs.Common.{◌≡◌, ◌≢◌, ◌==◌, ℕ, ◌+◌, ◌-◌, ◌<◌, inl, inr, Bool, true, false, cond, List, [], ◌∷◌, ◌++◌}
use Rattle.std.proofs.Common.{length, get_or, take, refl, sym, ◌∙◌, arith}
use Rattle.std.proofs.lemmas.Bool.{cases_lt}
use Rattle.std.proofs.lemmas.List.{take_more, take_all, get_or_past}
use Rattle.tor_source.specs.Places.{without_slash}
use borrow.Author.Tests.{eqb-true}

-- the last byte of a list that has one
last_of : (place : List ℕ) → 0 < length place
    → place ≡ take (length place - 1) place ++ get_or place (length place - 1) 0 ∷ []
last_of place some =
    let whole : take (length place - 1 + 1) place ≡ place = take_all (length place - 1 + 1) place (omega arith) in
    sym whole ∙ take_more place (length place - 1) 0 (omega arith)

pub no_slash : (place : List ℕ) → ((front : List ℕ) → place ≢ front ++ 47 ∷ []) → place ≡ without_slash place
no_slash place none = by_test (get_or place (length place - 1) 0 == 47) refl
  where
    by_test : (b : Bool) → (get_or place (length place - 1) 0 == 47) ≡ b
        → place ≡ cond b (take (length place - 1) place) place
    by_test false e = refl
    by_test true e =
        let last : get_or place (length place - 1) 0 ≡ 47 = eqb-true _ _ e in
        elim (cases_lt 0 (length place)) [
          | inl some ↦ absurd (none (take (length place - 1) place) (rw last at (last_of place some)))
          | inr past ↦ (let zero = get_or_past place (length place - 1) 0 (omega arith) in absurd (omega arith))
        ]
