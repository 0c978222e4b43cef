-- Numbers that are put in order. Only clauses of the crates that hash cite these.
use Rattle.std.specs.Prelude.{◌≡◌, ◌<◌, ◌≤◌, ◌+◌, ◌==◌, ℕ, zero, suc, List, cond, length, slice_index_or}
use Rattle.std.specs.List.{AllByRecursion, IsDistinct}

-- those from 0 on, each once
abbrev pub AreNumbers : List ℕ → Type 0
AreNumbers numbers = IsDistinct (λ m n. m == n) numbers × AllByRecursion (λ n. n < length numbers) numbers

-- 1 if this number stands at its own place, else 0
abbrev pub at_home : ℕ → ℕ → ℕ
at_home place number = cond (number == place) 1 0

-- what so many places come to
abbrev pub sum_below : (ℕ → ℕ) → ℕ → ℕ
sum_below f zero = 0
sum_below f (suc n) = sum_below f n + f n

-- how many stand at their own places
abbrev pub settled : List ℕ → ℕ
settled numbers = sum_below (λ place. at_home place (slice_index_or numbers place 0)) (length numbers)

-- after so many steps: all numbers before this place stand at their own, and each step has raised this sum
pub record HasGone (steps place : ℕ) (numbers : List ℕ) : Type 0 where
  pub are : AreNumbers numbers
  pub before : (k : ℕ) → k < place → slice_index_or numbers k 0 ≡ k
  pub within : place ≤ length numbers
  pub many : steps ≤ place + settled numbers
