-- By how many workers files are hashed.
use Rattle.std.specs.Prelude.{◌≤◌, ℕ, Bool, true, ◌&&◌, nat_le}
use Rattle.tor_sums.specs.declared.how.How.{How}
use Rattle.tor_sums.specs.declared.how.How.TheVariants.{One, Halves, Board}
use Rattle.tor_sums.specs.declared.how.TheConstants.{MAX_WORKERS}

-- from 1 to 64 workers, as a test (profile)
abbrev pub is_how : How → Bool
is_how One = true
is_how (Halves workers) = nat_le 1 workers && nat_le workers MAX_WORKERS
is_how (Board workers) = nat_le 1 workers && nat_le workers MAX_WORKERS

-- the same as a promise (profile)
abbrev pub IsHow : How → Type 0
IsHow One = Unit {0}
IsHow (Halves workers) = (1 ≤ workers) × (workers ≤ MAX_WORKERS)
IsHow (Board workers) = (1 ≤ workers) × (workers ≤ MAX_WORKERS)

-- how many workers there are
abbrev pub workers_of : How → ℕ
workers_of One = 1
workers_of (Halves workers) = workers
workers_of (Board workers) = workers
