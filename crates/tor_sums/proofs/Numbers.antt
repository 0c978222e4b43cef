-- The numbers from 0 on, each once, in any order.
use Rattle.std.proofs.Common.{◌≡◌, ◌<◌, ◌≤◌, ◌+◌, ◌==◌, ℕ, zero, suc, false, List, length, inl, inr}
use Rattle.std.proofs.Common.{arith, sym, subst, ◌∙◌, IsPermutation}
use Rattle.std.proofs.ByRecursion.{all_shuffled}
use Rattle.std.proofs.lemmas.Bool.{cases_eq, eq-eqb, ne_eqb}
use Rattle.std.proofs.lemmas.List.FromFn.{length-range_with_len}
use Rattle.std.proofs.lemmas.List.Sorted.{length_permutation}
use Rattle.std.proofs.lemmas.Map.Keys.{IsDistinct-IsPermutation}
use Rattle.std.specs.List.{AllByRecursion, IsDistinct, range_with_len}
use Rattle.tor_sums.specs.steps.Places.{AreNumbers}

-- ---- put in another order

same_eqb : (m n : ℕ) → (λ (x y : ℕ). x == y) m n ≡ (λ (x y : ℕ). x == y) n m
same_eqb m n = elim (cases_eq m n) [
  | inl same ↦ eq-eqb m n same ∙ sym (eq-eqb n m (sym same))
  | inr other ↦ ne_eqb m n other ∙ sym (ne_eqb n m (λ e. other (sym e)))
]

pub moved_numbers : (ns ms : List ℕ) → IsPermutation ns ms → AreNumbers ns → AreNumbers ms
moved_numbers ns ms moved are = (
  IsDistinct-IsPermutation (λ m n. m == n) same_eqb ns ms moved are.0,
  subst (λ (n : ℕ). AllByRecursion (λ m. m < n) ms) (sym (length_permutation ns ms moved))
      (all_shuffled (λ m. m < length ns) ns ms moved are.1),
)

-- ---- those of a range

others : (a b n : ℕ) → a < b → AllByRecursion (λ y. (a == y) ≡ false) (range_with_len b n)
others a b zero less = tt
others a b (suc n) less = (ne_eqb a b (λ same. omega (arith, same, less)), others a (b + 1) n (omega (arith, less)))

distinct : (a n : ℕ) → IsDistinct (λ x y. x == y) (range_with_len a n)
unfolding IsDistinct
distinct a zero = tt
distinct a (suc n) = (others a (a + 1) n (omega arith), distinct (a + 1) n)

up_to : (a b n : ℕ) → a + n ≤ b → AllByRecursion (λ y. y < b) (range_with_len a n)
up_to a b zero le = tt
up_to a b (suc n) le = (omega (arith, le), up_to (a + 1) b n (omega (arith, le)))

pub range_numbers : (n : ℕ) → AreNumbers (range_with_len 0 n)
range_numbers n = (
  distinct 0 n,
  subst (λ (m : ℕ). AllByRecursion (λ y. y < m) (range_with_len 0 n)) (sym (length-range_with_len 0 n))
      (up_to 0 n n (omega arith)),
)
