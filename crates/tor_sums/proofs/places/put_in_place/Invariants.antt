-- two steps each time
use Rattle.std.proofs.Common.{◌≡◌, ◌*◌, ◌≤◌, ℕ, IsPermutation, length, map}
use Rattle.std.specs.Fn.{FnReturnsAt}
use Rattle.tor_sums.specs.steps.Places.{AreNumbers, HasGone}
use Rattle.tor_sums.proofs.places.put_in_place.Given as goal

abbrev pub invariant-pairs : goal.invariant-pairs
invariant-pairs g l = record {
  within : l.place ≤ length l.items;
  same : IsPermutation l.fn.items l.items;
  gone : (number : _ → ℕ) → ((one : _) (n : ℕ) → FnReturnsAt g.F.Fn l.number_of one n → n ≡ number one)
      → AreNumbers (map number l.fn.items) → HasGone (2 * l.counter) l.place (map number l.items);
}
