-- A length and its padding.
use Rattle.std.proofs.Common.{◌≡◌, ℕ, ◌+◌, ◌-◌, ◌*◌, ◌/◌, ◌%◌, ◌<◌, arith, ap, ◌∙◌, inl, inr}
use Rattle.std.proofs.Math.Nat.{mod_self, mod-eq_of_lt, mod-lt, zero-mod}
use Rattle.std.proofs.lemmas.Bool.{cases_lt, cases_eq}
use Rattle.std.proofs.lemmas.Nat.{div-add-mod'}
use Rattle.tor_v1.specs.Entries.{padding_length}

-- a length and what it lacks are whole pieces
pub whole_with_padding : (p m : ℕ) → 0 < p → (k : ℕ) × (m + padding_length p m ≡ k * p)
whole_with_padding p m pos = elim (cases_eq (m % p) 0) [
  | inl none ↦
      let lack : (p - m % p) % p ≡ 0 =
      ap (λ r. (p - r) % p) none ∙ ap (λ n. n % p) (omega arith) ∙ mod_self p in
      (m / p, omega (arith, lack, none, div-add-mod' m p))
  | inr part ↦
      let there : 0 < m % p =
      elim (cases_lt 0 (m % p)) [ inl more ↦ more | inr le ↦ absurd (part (omega (arith, le))) ] in
      let lack : (p - m % p) % p ≡ p - m % p = mod-eq_of_lt (omega (arith, there, pos)) in
      (m / p + 1, omega (arith, lack, div-add-mod' m p, mod-lt m pos))
]

-- no byte lacks none
pub no_padding : (p : ℕ) → padding_length p 0 ≡ 0
no_padding p =
    let whole : (p - 0 % p) % p ≡ 0 =
    ap (λ r. (p - r) % p) (zero-mod p) ∙ ap (λ n. n % p) (omega arith) ∙ mod_self p in
    omega (arith, whole)
