-- The root of a short content, widened by zero leaves.
use Rattle.std.proofs.Common.{◌≡◌, ℕ, zero, suc, ◌+◌, ◌-◌, ◌*◌, ◌^◌, ◌<◌, ◌≤◌, List, [], ◌∷◌, length, map, arith, refl}
use Rattle.std.proofs.Common.{ap, ◌∙◌, sym, subst, le_antisymm, pow-add, pow-suc, pow_pos, ◌/◌}
use Rattle.std.proofs.Math.Nat.{pow-le-pow_right}
use Rattle.std.proofs.lemmas.Bool.{eq-eqb}
use Rattle.std.proofs.lemmas.Grind.{div_ceil_times}
use Rattle.std.proofs.lemmas.List.{length-map}
use Rattle.std.proofs.lemmas.List.FromFn.{length-map-range_with_len}
use Rattle.std.specs.Fork.{slice_chunk}
use Rattle.std.specs.Int.{div_ceil}
use Rattle.std.specs.Int.Count.{ones, ones_step}
use Rattle.std.specs.List.{range_with_len}
use Rattle.tor_merkle.specs.Block.{blocks, leaves}
use Rattle.tor_merkle.specs.Layer.{IsPieceLength, piece_level, pieces_root}
use Rattle.tor_merkle.specs.Stack.{padded_subtree}
use Rattle.tor_merkle.proofs.ProvedLaws.{piece_length_bounds, root_of_short_content, subtree_over_pieces}
use Rattle.tor_merkle.proofs.ProvedLaws.{height_covers, height_least}
use Rattle.tor_merkle.specs.Subtree.{height, zero_leaf, zero_subtree}
use Rattle.tor_sums.proofs.Levels.{exponents, few_below, piece_at_level}

ones_of_power : (k : ℕ) → ones (2 ^ k) ≡ 1
unfolding ones
ones_of_power zero = refl
ones_of_power (suc k) =
    let half : 2 ^ suc k / 2 ≡ 2 ^ k = omega (arith, pow-suc 2 k) in
    omega (arith, ones_step (2 ^ suc k), pow-suc 2 k, ap ones half, ones_of_power k)

-- so many blocks are a piece that is allowed
pub blocks_allowed : (k : ℕ) → k ≤ 16 → IsPieceLength (16384 * 2 ^ k)
blocks_allowed k low =
    let whole : 16384 * 2 ^ k ≡ 2 ^ (14 + k) = sym (pow-add 2 14 k) in
    let high : 2 ^ k ≤ 2 ^ 16 = pow-le-pow_right (omega arith) low in
    (piece_length_bounds (16384 * 2 ^ k)).1 (
      eq-eqb _ _ (ap ones whole ∙ ones_of_power (14 + k)),
      omega (arith, pow_pos k),
      omega (arith, high),
    )

-- the root over its leaves is that over its root, where zero subtrees follow
pub root_widened : (content : List ℕ) (h level : ℕ) → 0 < length content → h ≤ 16 → h ≤ level
    → length content ≤ 16384 * 2 ^ h → h ≡ height (length (leaves content))
    → padded_subtree (level - h) h (pieces_root content ∷ []) ≡ padded_subtree level 0 (leaves content)
unfolding pieces_root zero_leaf zero_subtree
root_widened content h level some low below fits is =
    let k = level - h in
    let up : k + h ≡ level = omega (arith, below) in
    let wide : length content ≤ 16384 * 2 ^ (k + h) =
    let more : 2 ^ h ≤ 2 ^ (k + h) = pow-le-pow_right (omega arith) (omega arith) in omega (arith, fits, more) in
    let level_is : piece_level (16384 * 2 ^ h) ≡ h =
    let split = piece_at_level (16384 * 2 ^ h) (blocks_allowed h low) in
    le_antisymm (exponents _ h (omega (arith, split))) (exponents h _ (omega (arith, split))) in
    ap (λ root. padded_subtree k h (root ∷ [])) (ap (λ n. padded_subtree n 0 (leaves content)) (sym is))
    ∙ ap (padded_subtree k h) (sym (root_of_short_content content (16384 * 2 ^ h) (blocks_allowed h low) some fits
    ∙ ap (λ n. padded_subtree n 0 (leaves content) ∷ []) level_is))
    ∙ sym (subtree_over_pieces content h k wide)
    ∙ ap (λ n. padded_subtree n 0 (leaves content)) up

count_of_leaves : (content : List ℕ) → length (leaves content) ≡ div_ceil (length content) 16384
unfolding leaves blocks
count_of_leaves content =
    length-map (map (slice_chunk content 16384) (range_with_len 0 (div_ceil (length content) 16384))) _
    ∙ length-map-range_with_len (slice_chunk content 16384) 0 (div_ceil (length content) 16384)

-- the root over the leaves is that over the root, by the height of a tree over so many bytes
module _ (count level : ℕ) (some : 0 < count) (low : level ≤ 16) (fits : count ≤ 16384 * 2 ^ level) where
  abbrev above : ℕ
  above = height (div_ceil count 16384)

  pub few_leaves : div_ceil count 16384 ≤ 2 ^ level
  few_leaves =
      let few = few_below count 16384 0 level (omega arith) (omega arith) fits in
      subst (λ (k : ℕ). div_ceil count 16384 ≤ 2 ^ k) (let e : level - 0 ≡ level = omega arith in e) few

  pub above_low : above ≤ level
  above_low = height_least (div_ceil count 16384) level few_leaves

  pub count_widened : (content : List ℕ) → length content ≡ count
      → padded_subtree (level - above) above (pieces_root content ∷ []) ≡ padded_subtree level 0 (leaves content)
  count_widened content counted =
      let covers = height_covers (div_ceil count 16384) in
      let bounds = div_ceil_times count 16384 (omega arith) in
      root_widened content above level (omega (arith, counted, some)) (omega (arith, above_low, low)) above_low
      (omega (arith, counted, covers, bounds.0))
      (ap height (ap (λ n. div_ceil n 16384) (sym counted) ∙ sym (count_of_leaves content)))
