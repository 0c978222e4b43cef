-- Spots in a tree over units: index i of level k stands over the units from i * 2 ^ k on, 2 ^ k of them. A node is a
-- spot with units on both sides. It is named by its middle: how many units of its tree stand left of it.
use Rattle.std.specs.Prelude.{◌≡◌, ℕ, zero, suc, ◌+◌, ◌*◌, ◌^◌, ◌≤◌}

-- the middle of index i of level k + 1
abbrev pub middle : ℕ → ℕ → ℕ
middle k i = (2 * i + 1) * 2 ^ k

-- of a tree of so many units: index i of level l is, d levels up, index j of level k, with no unit beside it on the way
abbrev pub Rises : ℕ → ℕ → ℕ → ℕ → ℕ → ℕ → Type 0
Rises count zero l i k j = (l ≡ k) × (i ≡ j)
Rises count (suc d) l i k j = (h : ℕ) × (i ≡ 2 * h) × (count ≤ middle l h) × Rises count d (suc l) h k j
