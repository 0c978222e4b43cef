-- What units sum up to, each by itself. Only clauses of the crates that hash cite these.
use Rattle.std.specs.Prelude.{◌≡◌, ℕ, List, [], ◌∷◌, ◌++◌}

-- each unit sums up to what stands at its place
unfoldable pub SumUpEach : {U A : Type 0} → (U → A → Type 0) → List U → List A → Type 0
SumUpEach sums_up [] [] = Unit {0}
SumUpEach sums_up (unit ∷ units) (one ∷ others) = sums_up unit one × SumUpEach sums_up units others
SumUpEach sums_up [] (one ∷ others) = ⊥
SumUpEach sums_up (unit ∷ units) [] = ⊥

-- each unit owes some, and all together these
unfoldable pub OweEach : {U A : Type 0} → (U → A → List ℕ → Type 0) → List U → List A → List ℕ → Type 0
OweEach owes [] [] owed = owed ≡ []
OweEach owes (unit ∷ units) (one ∷ others) owed =
    (own rest : List ℕ) × owes unit one own × OweEach owes units others rest × (own ++ rest ≡ owed)
OweEach owes [] (one ∷ others) owed = ⊥
OweEach owes (unit ∷ units) [] owed = ⊥
