-- For the invariant of `Stack` alone: which roots it keeps.
use Rattle.std.specs.Prelude.{◌≡◌, ℕ, ◌-◌, ◌/◌, ◌%◌, ◌^◌, ◌≤◌, List, length, slice_index_or}
use Rattle.tor_merkle.specs.steps.Node.{node}
use Rattle.tor_merkle.specs.Subtree.{zero_leaf}

-- what a stack keeps: where digit j of the number of hashes is 1, the root of the last 2 ^ j of those hashes
-- that the digits from j on count
pub record KeepsTops (level count : ℕ) (tops hashes : List (List ℕ)) : Type 0 where
  pub low : level ≤ 36
  pub levels : length tops ≡ 37
  pub counted : count ≡ length hashes
  pub small : count ≤ 2 ^ (36 - level)
  pub top : (j : ℕ) → count / 2 ^ j % 2 ≡ 1
      → slice_index_or tops j zero_leaf ≡ node level hashes j (count / 2 ^ j - 1)
