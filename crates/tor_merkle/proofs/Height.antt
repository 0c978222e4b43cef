-- The height of a tree: the least k with n at most 2 ^ k.
use Rattle.tor_merkle.proofs.Names.{◌≡◌, ◌⊎◌, ℕ, zero, suc, ◌^◌, ◌<◌, ◌≤◌, leb, arith, inl, inr, leb-true, leb-false}
use Rattle.tor_merkle.proofs.Names.{le_antisymm, le_trans, pow_pos, pow_mono, two-pow-succ, pow-lt, cases_Bool}
use Rattle.tor_merkle.proofs.Names.{cases_lt, cond-true, cond-false, height}

-- what one more does to the height
height_more : (n : ℕ)
    → ((suc n ≤ 2 ^ height n) × (height (suc n) ≡ height n))
    ⊎ ((2 ^ height n < suc n) × (height (suc n) ≡ suc (height n)))
unfolding height
height_more n = elim (cases_Bool (leb (suc n) (2 ^ height n))) [
  | inl e ↦ inl (leb-true _ _ e, cond-true _ _ _ e)
  | inr e ↦ inr (leb-false _ _ e, cond-false _ _ _ e)
]

pub height_covers : (n : ℕ) → n ≤ 2 ^ height n
height_covers zero = omega arith
height_covers (suc n) = elim (height_more n) [
  | inl (le, e) ↦ rw e le
  | inr (lt, e) ↦ rw (e, two-pow-succ) (omega (arith, height_covers n, pow_pos (height n)))
]

pub height_least : (n k : ℕ) → n ≤ 2 ^ k → height n ≤ k
unfolding height
height_least zero k le = omega arith
height_least (suc n) k le = elim (height_more n) [
  | inl (_, e) ↦ rw e (height_least n k (omega arith))
  | inr (lt, e) ↦ rw e (elim (cases_lt (height n) k) [
    | inl less ↦ less
    | inr more ↦ absurd (omega (arith, pow_mono more))
  ])
]

-- a number whose height is at most k
pub low_height : (n k : ℕ) → height n ≤ k → n ≤ 2 ^ k
low_height n k low = le_trans (height_covers n) (pow_mono low)

-- the height is above k exactly where 2 ^ k hashes are too few
pub height_above : (n k : ℕ) → 2 ^ k < n → k < height n
height_above n k lt = elim (cases_lt k (height n)) [
  | inl less ↦ less
  | inr more ↦ absurd (omega (arith, height_covers n, pow_mono more))
]

pub height-pow : (k : ℕ) → height (2 ^ k) ≡ k
height-pow k = le_antisymm (height_least (2 ^ k) k (omega arith)) (no_less k) where
  no_less : (k : ℕ) → k ≤ height (2 ^ k)
  no_less k = elim (cases_lt (height (2 ^ k)) k) [
    | inl less ↦ absurd (omega (arith, height_covers (2 ^ k), pow-lt less))
    | inr more ↦ more
  ]
