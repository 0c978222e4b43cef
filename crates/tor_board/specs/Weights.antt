-- Lists of numbers are compared by weight: two lists with the same weight under every f have the same numbers, as many
-- times each.
use Rattle.std.specs.Prelude.{ℕ, zero, suc, ◌+◌, List, [], ◌∷◌, cond, ◌==◌}

-- what f weighs the elements, added up
abbrev pub total : {X : Type 0} → (X → ℕ) → List X → ℕ
total f [] = 0
total f (x ∷ xs) = f x + total f xs

-- the weight of the numbers below n
abbrev pub below : (ℕ → ℕ) → ℕ → ℕ
below f zero = 0
below f (suc n) = below f n + f n

-- 1 of that number, and 0 of any other
abbrev pub only : ℕ → ℕ → ℕ
only u x = cond (x == u) 1 0

-- how often the number stands in the list
abbrev pub times : ℕ → List ℕ → ℕ
times u xs = total (only u) xs

-- the list, with one such number fewer
abbrev pub without : ℕ → List ℕ → List ℕ
without u [] = []
without u (x ∷ xs) = cond (x == u) xs (x ∷ without u xs)
