-- The digits of a count in base two, and what one more does to them.
use Rattle.tor_merkle.proofs.Names.{◌≡◌, ℕ, suc, ◌+◌, ◌*◌, ◌/◌, ◌%◌, ◌^◌, ◌<◌, ◌≤◌, arith, ap, ◌∙◌, sym, pow_pos}
use Rattle.tor_merkle.proofs.Names.{pow-add, pow-suc, mul_assoc, inl, inr, div-div-eq-div-mul, div-eq_of_lt-le}
use Rattle.tor_merkle.proofs.Names.{mul-div_cancel, pow-succ', pow-lt, cases_lt}

-- a power within a power
pub power_within : (a b : ℕ) → 2 ^ a ≤ 2 ^ b → a ≤ b
power_within a b le = elim (cases_lt b a) [
  | inl less ↦ absurd (omega (arith, pow-lt less))
  | inr more ↦ more
]

-- how often 2 ^ j goes into a number between two multiples
pub div_between : (n j q : ℕ) → q * 2 ^ j ≤ n → n < (q + 1) * 2 ^ j → n / 2 ^ j ≡ q
div_between n j q le lt = div-eq_of_lt-le (2 ^ j) le lt

-- above an even digit j, a number and the next have the same digits
pub same_above : (n rest j d : ℕ) → n + 1 ≡ (rest + 1) * 2 ^ j → rest % 2 ≡ 0
    → (n + 1) / 2 ^ (j + suc d) ≡ n / 2 ^ (j + suc d)
same_above n rest j d e even =
    let up = λ (m : ℕ). ap (λ x. m / x) (pow-add 2 j (suc d)) ∙ sym (div-div-eq-div-mul m (2 ^ j) (2 ^ suc d))
    ∙ ap (λ x. m / 2 ^ j / x) (pow-succ' 2 d) ∙ sym (div-div-eq-div-mul (m / 2 ^ j) 2 (2 ^ d)) in
    let pos = pow_pos j in
    let low : n / 2 ^ j ≡ rest = div_between n j rest (omega arith) (omega arith) in
    let high : (n + 1) / 2 ^ j ≡ rest + 1 = div_between (n + 1) j (rest + 1) (omega arith) (omega arith) in
    up (n + 1) ∙ ap (λ x. x / 2 ^ d) (ap (λ x. x / 2) high ∙ omega arith ∙ ap (λ x. x / 2) (sym low)) ∙ sym (up n)

-- below digit j, a multiple of 2 ^ j has only zeros
pub none_below : (n m i d : ℕ) → n ≡ m * 2 ^ (i + suc d) → n / 2 ^ i % 2 ≡ 0
none_below n m i d e =
    let split : n ≡ (m * 2 ^ suc d) * 2 ^ i =
    e ∙ ap (λ x. m * x) (ap (λ k. 2 ^ k) (omega arith) ∙ pow-add 2 (suc d) i) ∙ sym (mul_assoc m (2 ^ suc d) (2 ^ i)) in
    let q : n / 2 ^ i ≡ m * 2 ^ suc d = ap (λ x. x / 2 ^ i) split ∙ mul-div_cancel (m * 2 ^ suc d) (pow_pos i) in
    let twice : m * 2 ^ suc d ≡ (m * 2 ^ d) * 2 = ap (λ x. m * x) (pow-suc 2 d) ∙ sym (mul_assoc m (2 ^ d) 2) in
    omega (arith, q, twice)
