-- What takes the bytes of a text.
use Rattle.std.specs.Prelude.{◌≤◌, ◌<◌, ◌^◌, ℕ, List, [], ◌++◌, length, take}

-- taking nothing changes nothing, and what is taken after other bytes is taken with them. If some bytes cannot be taken
-- whole, more cannot, and those before them were taken; what has 2 ^ 64 bytes never can
pub record IsSink {S : Type 0} (took : S → S → List ℕ → Type 0) (fails : S → List ℕ → Type 0) : Type 0 where
  pub none : (s : S) → took s s []
  pub both : (r s t : S) (xs ys : List ℕ) → took r s xs → took s t ys → took r t (xs ++ ys)
  pub sooner : (s : S) (xs ys : List ℕ) → fails s xs → fails s (xs ++ ys)
  pub later : (r s : S) (xs ys : List ℕ) → took r s xs → fails s ys → fails r (xs ++ ys)
  pub long : (s : S) (xs : List ℕ) → 2 ^ 64 ≤ length xs → fails s xs

-- so many bytes of a text were taken and no others, since it cannot be taken whole (profile)
abbrev pub IsStopped : {S : Type 0} → (S → S → List ℕ → Type 0) → (S → List ℕ → Type 0) → S → S → ℕ → List ℕ
    → Type 0
IsStopped took fails start now written text =
    (written < length text) × took start now (take written text) × fails start text
