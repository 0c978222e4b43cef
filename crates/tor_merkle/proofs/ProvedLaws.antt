-- The laws of `src/laws.rt`, and lemmas on rounding up, powers of two and lists by index, for proofs that cite them.
use Rattle.tor_merkle.proofs.Names.{◌≡◌, ◌+◌, ◌-◌, ◌*◌, ◌^◌, ◌<◌, ◌≤◌, ℕ, List, [], ◌∷◌, ◌++◌, length, map, arith, sym}
use Rattle.tor_merkle.proofs.Names.{ap, ap₂, ◌∙◌, pow-add, mul_assoc, mul_comm, inl, inr, pow-lt, cases_lt, cond-true}
use Rattle.tor_merkle.proofs.Names.{cond-false, eqb-true, lt-ltb, le-ltb, lt-leb, div_ceil, flat_map, range_with_len}
use Rattle.tor_merkle.proofs.Names.{run_at, leaves, IsPieceLength, pieces_root, piece_level, piece_roots, piece_layer}
use Rattle.tor_merkle.proofs.Names.{proof_count, proof_level, padded_root, padded_subtree, height, MAX_LENGTH}
use Rattle.tor_merkle.proofs.Names.{MAX_PIECE_LENGTH}
use Rattle.tor_merkle.proofs.Content.{length-piece_roots, longer_than_piece, piece_roots-nodes, only_piece_root}
use Rattle.tor_merkle.proofs.Filled.{padded_root-nodes}
use Rattle.tor_merkle.proofs.Joined.{piece_roots-joined}
use Rattle.tor_merkle.proofs.Lengths.{length_bounds, length_split, level_is, level_low}
use Rattle.tor_merkle.proofs.Units.{roots-units}
use Rattle.tor_merkle.proofs.Sums.{padded_root-leaves}
pub use Rattle.tor_merkle.proofs.Ceil.{below_from_ceil, ceil_at_most, ceil_few, ceil_from_below, ceil_is, ceil_joined}
pub use Rattle.tor_merkle.proofs.Ceil.{ceil_mono, ceil_whole}
pub use Rattle.tor_merkle.proofs.HashLengths.{piece_roots_have_32_bytes, root_has_32_bytes}
pub use Rattle.tor_merkle.proofs.Content.{length-piece_roots as count_of_piece_roots}
pub use Rattle.tor_merkle.proofs.Lengths.{length_bounds as piece_length_bounds, level_low as piece_levels_are_low}
pub use Rattle.tor_merkle.proofs.Lengths.{length_at_level as piece_at_level}
pub use Rattle.tor_merkle.proofs.BinaryDigits.{power_within}
pub use Rattle.tor_merkle.proofs.Height.{height-pow, height_covers, height_least}
pub use Rattle.tor_merkle.proofs.Levels.{range_same}
pub use Rattle.tor_merkle.proofs.Power.{power_from_ones}
pub use Rattle.tor_merkle.proofs.RunRoots.{root_of_halves, root_of_one, root_of_whole}
pub use Rattle.tor_merkle.proofs.UnitRoots.{root_over_units, subtree_over_pieces}

-- a piece length is 2 ^ k with k at most 30
pub piece_lengths_divide_the_greatest : (n : ℕ) → IsPieceLength n → (count : ℕ) × (MAX_PIECE_LENGTH ≡ count * n)
piece_lengths_divide_the_greatest n allowed =
    let bounds = (length_bounds n).0 allowed in
    let power = power_from_ones n (eqb-true _ _ bounds.0) in
    let below : power.0 ≤ 30 = elim (cases_lt 30 power.0) [
      | inl more ↦
          let grown : 2 ^ 30 < 2 ^ power.0 = pow-lt more in
          absurd (omega (arith, grown, power.1, bounds.2))
      | inr le ↦ le
    ] in
    let split : 2 ^ 30 ≡ 2 ^ (30 - power.0) * 2 ^ power.0 =
    ap (λ k. 2 ^ k) (let e : 30 ≡ 30 - power.0 + power.0 = omega arith in e) ∙ pow-add 2 (30 - power.0) power.0 in
    (2 ^ (30 - power.0), split ∙ ap (λ m. 2 ^ (30 - power.0) * m) (sym power.1))

-- where the first content ends with a whole piece
pub piece_roots_of_joined : (a b : List ℕ) (piece_length k : ℕ) → IsPieceLength piece_length
    → length a ≡ k * piece_length
    → piece_roots (a ++ b) piece_length ≡ piece_roots a piece_length ++ piece_roots b piece_length
piece_roots_of_joined a b n k allowed long =
    let split = length_split n allowed in
    rw split.1 (piece_roots-joined a b split.0 k (long ∙ ap (λ x. k * x) split.1))

-- in units of whole pieces
pub piece_roots_of_units : (content : List ℕ) (piece_length span : ℕ) → IsPieceLength piece_length → 0 < span
    → flat_map (λ unit. piece_roots unit piece_length) (map (run_at (span * piece_length) content)
    (range_with_len 0 (div_ceil (length content) (span * piece_length))))
    ≡ piece_roots content piece_length
piece_roots_of_units content n span allowed some =
    let split = length_split n allowed in
    rw split.1 (roots-units content split.0 span some)

-- a content of at most one piece
pub root_of_short_content : (content : List ℕ) (piece_length : ℕ) → IsPieceLength piece_length → 0 < length content
    → length content ≤ piece_length
    → piece_roots content piece_length ≡ padded_subtree (piece_level piece_length) 0 (leaves content) ∷ []
root_of_short_content content n allowed some short =
    let split = length_split n allowed in
    ap (piece_roots content) split.1 ∙ only_piece_root content split.0 some (omega (arith, split.1, short))
    ∙ ap (λ k. padded_subtree k 0 (leaves content) ∷ []) (sym (level_is n split.0 split.1))

-- the root of a content longer than a piece is that of its layer
pub root_of_long_content : (content : List ℕ) (piece_length : ℕ) → IsPieceLength piece_length
    → piece_length < length content
    → pieces_root content ≡ padded_root (piece_level piece_length) (piece_roots content piece_length)
root_of_long_content content n allowed long =
    let split = length_split n allowed in
    let k = split.0 in
    sym (padded_root-leaves content)
    ∙ sym (padded_root-nodes (leaves content) k (longer_than_piece content k (omega (arith, split.1, long))))
    ∙ ap₂ padded_root (sym (level_is n k split.1))
    (sym (piece_roots-nodes content k) ∙ ap (piece_roots content) (sym split.1))

pub layer_of_long_content : (content : List ℕ) (piece_length : ℕ) → piece_length < length content
    → piece_layer content piece_length ≡ piece_roots content piece_length
unfolding piece_layer
layer_of_long_content content n long = cond-false _ [] _ (lt-leb _ _ long)

-- as many as a layer may have
pub some_piece_root : (content : List ℕ) (piece_length : ℕ) → IsPieceLength piece_length → 0 < length content
    → 0 < length (piece_roots content piece_length)
some_piece_root content n allowed some =
    let pos : 0 < n = omega (arith, ((length_bounds n).0 allowed).1) in
    rw length-piece_roots (ceil_from_below (length content) n 0 pos (omega (arith, some)))

few_pieces : (size n : ℕ) → IsPieceLength n → size ≤ MAX_LENGTH → div_ceil size n ≤ 2 ^ (36 - piece_level n)
few_pieces size n allowed small =
    let split = length_split n allowed in
    let k = split.0 in
    let level : piece_level n ≡ k = level_is n k split.1 in
    let all : 2 ^ 36 ≡ 2 ^ (36 - k) * 2 ^ k =
    ap (λ x. 2 ^ x) (let whole : 36 ≡ 36 - k + k = omega (arith, level, level_low n allowed) in whole)
    ∙ pow-add 2 (36 - k) k in
    let wide : 2 ^ (36 - k) * n ≡ 2 ^ (36 - k) * 2 ^ k * 16384 =
    ap (λ x. 2 ^ (36 - k) * x) (split.1 ∙ mul_comm 16384 (2 ^ k)) ∙ sym (mul_assoc (2 ^ (36 - k)) (2 ^ k) 16384) in
    let pos : 0 < n = omega (arith, ((length_bounds n).0 allowed).1) in
    rw level (ceil_at_most size n (2 ^ (36 - k)) pos (omega (arith, small, all, wide)))

pub few_piece_roots : (content : List ℕ) (piece_length : ℕ) → IsPieceLength piece_length
    → length content ≤ MAX_LENGTH
    → length (piece_roots content piece_length) ≤ 2 ^ (36 - piece_level piece_length)
few_piece_roots content n allowed small =
    rw (length-piece_roots content n) (few_pieces (length content) n allowed small)

-- the trees of proofs have at most 37 levels in all
pub proofs_are_low : (size piece_length : ℕ) → IsPieceLength piece_length → size ≤ MAX_LENGTH
    → proof_level size piece_length + height (proof_count size piece_length) ≤ 36
proofs_are_low size n allowed small = elim (cases_lt n size) [
  | inl long ↦
      let level : proof_level size n ≡ piece_level n = cond-true _ _ _ (lt-ltb n size long) in
      let count : proof_count size n ≡ div_ceil size n = cond-true _ _ _ (lt-ltb n size long) in
      let few = height_least (div_ceil size n) (36 - piece_level n) (few_pieces size n allowed small) in
      rw (level, count) (omega (arith, level_low n allowed, few))
  | inr short ↦
      let level : proof_level size n ≡ height (div_ceil size 16384) = cond-false _ _ _ (le-ltb n size short) in
      let count : proof_count size n ≡ 1 = cond-false _ _ _ (le-ltb n size short) in
      let few = ceil_at_most size 16384 (2 ^ 36) (omega arith) (omega arith) in
      rw (level, count) (omega (arith, height_least (div_ceil size 16384) 36 few, height_least 1 0 (omega arith)))
]
