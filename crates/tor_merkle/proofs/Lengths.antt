-- A piece has 16,384 * 2 ^ k bytes, and one hash covers it at level k.
use Rattle.tor_merkle.proofs.Names.{◌≡◌, ◌*◌, ◌/◌, ◌^◌, ◌≤◌, ◌↔◌, ℕ, Bool, true, ◌&&◌, leb, IsTrue, arith, refl, ap}
use Rattle.tor_merkle.proofs.Names.{sym, ◌∙◌, leb-true, mul-div_cancel_left, and_parts, le-leb, is_power_of_two}
use Rattle.tor_merkle.proofs.Names.{IsPieceLength, piece_level, height, MAX_PIECE_LENGTH, MIN_PIECE_LENGTH}
use Rattle.std.proofs.Common.{eqb-true}
use Rattle.tor_merkle.proofs.Height.{height-pow, height_least}
use Rattle.tor_merkle.proofs.Power.{power_split}

-- a test of three parts, the last two of which are orders
three_parts : (a : Bool) (low n high : ℕ)
    → ((a && (leb low n && leb n high)) ≡ true) ↔ ((a ≡ true) × (low ≤ n) × (n ≤ high))
three_parts a low n high = (
  λ h.
      let outer = and_parts a (leb low n && leb n high) h in
      let inner = and_parts (leb low n) (leb n high) outer.1 in
      (outer.0, leb-true _ _ inner.0, leb-true _ _ inner.1),
  λ h. let from = le-leb low n h.1 in let to = le-leb n high h.2 in rw (h.0, from, to) refl,
)

pub length_bounds : (n : ℕ)
    → IsPieceLength n ↔ (IsTrue (is_power_of_two n) × (MIN_PIECE_LENGTH ≤ n) × (n ≤ MAX_PIECE_LENGTH))
length_bounds n = three_parts (is_power_of_two n) MIN_PIECE_LENGTH n MAX_PIECE_LENGTH

pub length_split : (n : ℕ) → IsPieceLength n → (k : ℕ) × (n ≡ 16384 * 2 ^ k)
length_split n allowed =
    let bounds = (length_bounds n).0 allowed in
    power_split n 14 (eqb-true _ _ bounds.0) bounds.1

pub level_is : (n k : ℕ) → n ≡ 16384 * 2 ^ k → piece_level n ≡ k
level_is n k e = ap (λ x. height (x / 16384)) e ∙ ap height (mul-div_cancel_left (2 ^ k) (omega arith)) ∙ height-pow k

-- a piece has 2 ^ level blocks
pub length_at_level : (n : ℕ) → IsPieceLength n → n ≡ 16384 * 2 ^ piece_level n
length_at_level n allowed =
    let split = length_split n allowed in split.1 ∙ ap (λ k. 16384 * 2 ^ k) (sym (level_is n split.0 split.1))

pub level_low : (n : ℕ) → IsPieceLength n → piece_level n ≤ 16
level_low n allowed = height_least (n / 16384) 16 (omega (arith, ((length_bounds n).0 allowed).2))
