-- A number with one bit set is a power of two.
use Rattle.tor_merkle.proofs.Names.{◌≡◌, ℕ, suc, ◌-◌, ◌*◌, ◌/◌, ◌%◌, ◌^◌, ◌<◌, ◌≤◌, count_ones, arith, inl, inr}
use Rattle.tor_merkle.proofs.Names.{pow-suc, pow-add, ap, ◌∙◌, bin_ind, mul-lt-mul_of_pos_left, pow-lt, cases_eq}
use Rattle.tor_merkle.proofs.Names.{cases_lt, cases_order, zero_from_ones, ones, ones_step}

one_bit_zero : ones 0 ≡ 1 → (k : ℕ) × (0 ≡ 2 ^ k)
unfolding ones
one_bit_zero e = absurd (omega (arith, e))

one_bit_more : (n : ℕ) → (ones (n / 2) ≡ 1 → (k : ℕ) × (n / 2 ≡ 2 ^ k)) → ones n ≡ 1 → (k : ℕ) × (n ≡ 2 ^ k)
one_bit_more n half e = elim (cases_eq (n % 2) 0) [
  | inl even ↦ let h = half (omega (arith, ones_step n)) in (suc h.0, rw pow-suc (omega (arith, h.1)))
  | inr odd ↦ (0, omega (arith, zero_from_ones (n / 2) (omega (arith, ones_step n))))
]

pub power_from_ones : (n : ℕ) → count_ones n ≡ 1 → (k : ℕ) × (n ≡ 2 ^ k)
power_from_ones = bin_ind (λ n. ones n ≡ 1 → (k : ℕ) × (n ≡ 2 ^ k)) one_bit_zero one_bit_more

-- a power of two from 2 ^ j on is a multiple of it by a power of two
pub power_split : (n j : ℕ) → count_ones n ≡ 1 → 2 ^ j ≤ n → (k : ℕ) × (n ≡ 2 ^ j * 2 ^ k)
power_split n j e le =
    let p = power_from_ones n e in
    let above : j ≤ p.0 = elim (cases_lt p.0 j) [
      | inl less ↦ absurd (omega (arith, pow-lt less, p.1))
      | inr more ↦ more
    ] in
    (p.0 - j, p.1 ∙ ap (λ k. 2 ^ k) (omega arith) ∙ pow-add 2 j (p.0 - j))

pub same_power : (m a b : ℕ) → 0 < m → m * 2 ^ a ≡ m * 2 ^ b → a ≡ b
same_power m a b pos e = elim (cases_order a b) [
  | inl same ↦ same
  | inr (inl less) ↦ absurd (omega (arith, mul-lt-mul_of_pos_left {k = m} (pow-lt less) pos))
  | inr (inr more) ↦ absurd (omega (arith, mul-lt-mul_of_pos_left {k = m} (pow-lt more) pos))
]
