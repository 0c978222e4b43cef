-- How many runs of m there are in n, the last perhaps shorter: run k is one of them exactly where it begins below n.
use Rattle.std.proofs.Math.Nat.{le-mul_of_pos_right}
use Rattle.tor_merkle.proofs.Names.{◌≡◌, ℕ, ◌+◌, ◌*◌, ◌<◌, ◌≤◌, arith, inl, inr, le_antisymm, lt_of_mul-lt-mul_right}
use Rattle.tor_merkle.proofs.Names.{mul-le-mul_right, mul-pos, mul_assoc, cases_lt, div_ceil_times, div_ceil}

-- a run that is there begins below n
pub below_from_ceil : (n m k : ℕ) → 0 < m → k < div_ceil n m → k * m < n
below_from_ceil n m k pos lt =
    let bounds = div_ceil_times n m pos in
    let more : (k + 1) * m ≤ div_ceil n m * m = mul-le-mul_right m (omega arith) in
    omega (arith, bounds.1)

-- what begins below n is there
pub ceil_from_below : (n m k : ℕ) → 0 < m → k * m < n → k < div_ceil n m
ceil_from_below n m k pos lt =
    let bounds = div_ceil_times n m pos in
    let less : k * m < div_ceil n m * m = omega (arith, bounds.0) in
    lt_of_mul-lt-mul_right m less

no_less : (a b : ℕ) → ((k : ℕ) → k < a → k < b) → a ≤ b
no_less a b f = elim (cases_lt b a) [ inl lt ↦ absurd (omega (arith, f b lt)) | inr le ↦ le ]

-- numbers with the same numbers below them are one
pub same_from_below : (a b : ℕ) → ((k : ℕ) → k < a → k < b) → ((k : ℕ) → k < b → k < a) → a ≡ b
same_from_below a b f g = le_antisymm (no_less a b f) (no_less b a g)

-- runs of q runs of m are runs of q * m
pub ceil_ceil : (n m q : ℕ) → 0 < m → 0 < q → div_ceil (div_ceil n m) q ≡ div_ceil n (q * m)
ceil_ceil n m q m_pos q_pos = same_from_below _ _ to from where
  to : (k : ℕ) → k < div_ceil (div_ceil n m) q → k < div_ceil n (q * m)
  to k lt =
      let low : (k * q) * m < n = below_from_ceil n m (k * q) m_pos (below_from_ceil (div_ceil n m) q k q_pos lt) in
      ceil_from_below n (q * m) k (mul-pos q_pos m_pos) (rw (← mul_assoc) low)

  from : (k : ℕ) → k < div_ceil n (q * m) → k < div_ceil (div_ceil n m) q
  from k lt =
      let low : k * (q * m) < n = below_from_ceil n (q * m) k (mul-pos q_pos m_pos) lt in
      ceil_from_below (div_ceil n m) q k q_pos (ceil_from_below n m (k * q) m_pos (rw mul_assoc low))

-- runs of one
pub ceil-one : (n : ℕ) → div_ceil n 1 ≡ n
ceil-one n = same_from_below _ _
    (λ k lt. omega (arith, below_from_ceil n 1 k (omega arith) lt))
    (λ k lt. ceil_from_below n 1 k (omega arith) (omega arith))

-- as many runs of m as cover n are enough
pub ceil_at_most : (n m c : ℕ) → 0 < m → n ≤ c * m → div_ceil n m ≤ c
ceil_at_most n m c pos le = elim (cases_lt c (div_ceil n m)) [
  | inl less ↦ absurd (omega (arith, below_from_ceil n m c pos less))
  | inr more ↦ more
]

-- no more runs than n
pub ceil_few : (n m : ℕ) → 0 < m → div_ceil n m ≤ n
ceil_few n m pos = ceil_at_most n m n pos (le-mul_of_pos_right {m = m} n pos)

-- the runs cover n
pub ceil_covers : (n m : ℕ) → 0 < m → n ≤ div_ceil n m * m
ceil_covers n m pos = (div_ceil_times n m pos).0

-- more needs no fewer
pub ceil_mono : (n more m : ℕ) → 0 < m → n ≤ more → div_ceil n m ≤ div_ceil more m
ceil_mono n more m pos le = ceil_at_most n m (div_ceil more m) pos (omega (arith, ceil_covers more m pos))

-- so many runs cover n, and one fewer do not
pub ceil_is : (n m c : ℕ) → n ≤ c * m → c * m < n + m → div_ceil n m ≡ c
ceil_is n m c low high =
    let pos : 0 < m = omega arith in
    let less : c < div_ceil n m + 1 = lt_of_mul-lt-mul_right m (omega (arith, ceil_covers n m pos)) in
    omega (arith, ceil_at_most n m c pos low)

-- whole runs, and what comes after them
pub ceil_joined : (c n m : ℕ) → 0 < m → div_ceil (c * m + n) m ≡ c + div_ceil n m
ceil_joined c n m pos =
    let bounds = div_ceil_times n m pos in
    ceil_is (c * m + n) m (c + div_ceil n m) (omega (arith, bounds.0)) (omega (arith, bounds.1))

pub ceil_whole : (c m : ℕ) → 0 < m → div_ceil (c * m) m ≡ c
ceil_whole c m pos = ceil_is (c * m) m c (omega arith) (omega arith)
