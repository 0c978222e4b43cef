-- A content that is cut into units of whole pieces, the last perhaps shorter: the pieces are those of the units.
use Rattle.tor_merkle.proofs.Names.{◌≡◌, ℕ, zero, suc, ◌+◌, ◌*◌, ◌^◌, ◌<◌, ◌≤◌, List, [], ◌∷◌, ◌++◌, map, length, take}
use Rattle.tor_merkle.proofs.Names.{arith, sym, ap, ap₂, ◌∙◌, zero-add, append-nil, length-take, add-one, mul_assoc}
use Rattle.tor_merkle.proofs.Names.{zero-mul, mul-pos, pow_pos, take-add, flat_map-append, nil_from_length, take_all}
use Rattle.tor_merkle.proofs.Names.{map-range_with_len_more, div_ceil, flat_map, range_with_len, run_at, piece_roots}
use Rattle.tor_merkle.proofs.Ceil.{below_from_ceil, ceil_at_most, ceil_covers}
use Rattle.tor_merkle.proofs.Content.{length-piece_roots}
use Rattle.tor_merkle.proofs.Joined.{piece_roots-joined}

module _ (content : List ℕ) (k span : ℕ) where
  abbrev piece : ℕ
  piece = 16384 * 2 ^ k

  abbrev size : ℕ
  size = span * piece

  abbrev roots : List ℕ → List (List ℕ)
  roots unit = piece_roots unit piece

  abbrev units : ℕ → List (List ℕ)
  units n = map (run_at size content) (range_with_len 0 n)

  -- no byte, no piece
  roots-nil : roots [] ≡ []
  roots-nil =
      let none = ceil_at_most 0 piece 0 (omega (arith, pow_pos k)) (omega arith) in
      nil_from_length (roots []) (omega (arith, length-piece_roots [] piece, none))

  -- the roots of the first n units
  roots-first : (n : ℕ) → n ≤ div_ceil (length content) size → 0 < size
      → flat_map roots (units n) ≡ roots (take (n * size) content)
  roots-first zero le pos = sym (ap (λ m. roots (take m content)) (zero-mul size) ∙ roots-nil)
  roots-first (suc n) le pos =
      let begun : n * size < length content = below_from_ceil (length content) size n pos (omega arith) in
      let long : length (take (n * size) content) ≡ n * span * piece =
      length-take (n * size) content ∙ omega (arith, begun) ∙ sym (mul_assoc n span piece) in
      let whole : suc n * size ≡ n * size + size = omega arith in
      ap (λ m. flat_map roots (units m)) (sym (add-one n))
      ∙ ap (flat_map roots) (map-range_with_len_more (run_at size content) 0 n n (zero-add n))
      ∙ flat_map-append roots (units n) (run_at size content n ∷ [])
      ∙ ap₂ (λ xs ys. xs ++ ys) (roots-first n (omega arith) pos) (append-nil (roots (run_at size content n)))
      ∙ sym (piece_roots-joined (take (n * size) content) (run_at size content n) k (n * span) long)
      ∙ ap roots (sym (take-add (n * size) size content) ∙ ap (λ m. take m content) (sym whole))

  pub roots-units : 0 < span
      → flat_map roots (units (div_ceil (length content) size)) ≡ roots content
  roots-units some =
      let pos : 0 < size = mul-pos some (omega (arith, pow_pos k)) in
      roots-first (div_ceil (length content) size) (omega arith) pos
      ∙ ap roots (take_all (div_ceil (length content) size * size) content (ceil_covers (length content) size pos))
