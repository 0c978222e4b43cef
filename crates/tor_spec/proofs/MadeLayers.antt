-- The piece layers of a made torrent: no condition on them holds, and they tell each file's layer.
use Rattle.tor_spec.proofs.Names.{◌≡◌, ◌<◌, ◌*◌, ◌/◌, ℕ, Bool, true, false, ◌&&◌, cond, List, [], ◌∷◌, length, nat_lt}
use Rattle.tor_spec.proofs.Names.{Option, Some, is_none, unwrap_or, take, drop, refl, sym, ap, ◌∙◌, arith}
use Rattle.tor_spec.proofs.Names.{length-append, AllByRecursion, first_chunks, take-append_seam, drop-append_seam}
use Rattle.tor_spec.proofs.Names.{cond-true, eq-eqb, le-leb, ltb-false, ltb-true, not_from_true, recursion_from_All}
use Rattle.tor_spec.proofs.Names.{bytes_eq-Decides, Data, count_of_piece_roots, layer_of_long_content}
use Rattle.tor_spec.proofs.Names.{piece_roots_have_32_bytes, root_of_long_content, IsPieceLength, piece_layer}
use Rattle.tor_spec.proofs.Names.{piece_level, piece_roots, pieces_root, root_of, padded_root, File, joined}
use Rattle.tor_spec.proofs.Names.{has_other_root, hashes_in, is_long, is_misshaped, lacks_layer, layer_of, layer_text}
use Rattle.tor_spec.proofs.Names.{pieces_in}
use Rattle.tor_spec.proofs.MadeHeads.{tree_file}

abbrev AreHashes : List (List ℕ) → Type 0
AreHashes hashes = AllByRecursion (λ hash. length hash ≡ 32) hashes

joined_length : (hashes : List (List ℕ)) → AreHashes hashes → length (joined hashes) ≡ 32 * length hashes
joined_length [] hashed = refl
joined_length (hash ∷ hashes) hashed =
    omega (arith, length-append hash (joined hashes), joined_length hashes hashed.1, hashed.0)

cut_joined : (hashes : List (List ℕ)) → AreHashes hashes → first_chunks 32 (length hashes) (joined hashes) ≡ hashes
cut_joined [] hashed = refl
cut_joined (hash ∷ hashes) hashed =
    let first : take 32 (joined (hash ∷ hashes)) ≡ hash =
    ap (λ n. take n (joined (hash ∷ hashes))) (sym hashed.0) ∙ take-append_seam hash (joined hashes) in
    let rest : drop 32 (joined (hash ∷ hashes)) ≡ joined hashes =
    ap (λ n. drop n (joined (hash ∷ hashes))) (sym hashed.0) ∙ drop-append_seam hash (joined hashes) in
    ap (λ (h : List ℕ). h ∷ first_chunks 32 (length hashes) (drop 32 (joined (hash ∷ hashes)))) first
    ∙ ap (λ (text : List ℕ). hash ∷ first_chunks 32 (length hashes) text) rest
    ∙ ap (λ (hs : List (List ℕ)). hash ∷ hs) (cut_joined hashes hashed.1)

-- joined hashes are cut into those hashes
hashes_of_joined : (hashes : List (List ℕ)) → AreHashes hashes → hashes_in (joined hashes) ≡ hashes
hashes_of_joined hashes hashed =
    let count : length (joined hashes) / 32 ≡ length hashes = omega (arith, joined_length hashes hashed) in
    ap (λ n. first_chunks 32 n (joined hashes)) count ∙ cut_joined hashes hashed

-- what holds only where a test is passed
pub guarded : (test more : Bool) → (test ≡ true → more ≡ false) → (test && more) ≡ false
guarded true more h = h refl
guarded false more h = refl

root_key : (content : List ℕ) → 0 < length content → unwrap_or (root_of content) [] ≡ pieces_root content
root_key [] some = absurd (omega arith)
root_key (byte ∷ bytes) some = refl

-- a file whose layer is found under its root, if it is longer than a piece
module _ (p : ℕ) (allowed : IsPieceLength p) (layers : Data) (file : File)
    (found : p < length file.content
    → layer_text layers (tree_file file) ≡ Some (joined (piece_layer file.content p))) where
  layer_is : p < length file.content → piece_layer file.content p ≡ piece_roots file.content p
  layer_is long = layer_of_long_content file.content p long

  hashed : p < length file.content → AreHashes (piece_layer file.content p)
  hashed long = rw (layer_is long)
      (recursion_from_All (λ (root : List ℕ). length root ≡ 32) (piece_roots file.content p)
      (piece_roots_have_32_bytes file.content p))

  layer_cut : p < length file.content → layer_of layers (tree_file file) ≡ piece_layer file.content p
  layer_cut long =
      ap (λ (text : Option (List ℕ)). hashes_in (unwrap_or text [])) (found long)
      ∙ hashes_of_joined (piece_layer file.content p) (hashed long)

  pub lacks_none : lacks_layer p layers (tree_file file) ≡ false
  lacks_none = guarded (nat_lt p (length file.content)) (is_none (layer_text layers (tree_file file)))
      (λ e. ap is_none (found (ltb-true p (length file.content) e)))

  pub well_shaped : is_misshaped p layers (tree_file file) ≡ false
  well_shaped = guarded (nat_lt p (length file.content)) _ (λ e.
      let long = ltb-true p (length file.content) e in
      let layer = piece_layer file.content p in
      let text : length (unwrap_or (layer_text layers (tree_file file)) []) ≡ 32 * length layer =
      ap (λ (text : Option (List ℕ)). length (unwrap_or text [])) (found long) ∙ joined_length layer (hashed long) in
      let count : length layer ≡ pieces_in p (length file.content) =
      ap length (layer_is long) ∙ count_of_piece_roots file.content p in
      not_from_true _ (eq-eqb _ _ (text ∙ ap (λ n. 32 * n) count)))

  pub has_own_root : has_other_root p layers (tree_file file) ≡ false
  has_own_root = guarded (nat_lt p (length file.content)) _ (λ e.
      let long = ltb-true p (length file.content) e in
      let same : padded_root (piece_level p) (layer_of layers (tree_file file)) ≡ unwrap_or (root_of file.content) [] =
      ap (padded_root (piece_level p)) (layer_cut long ∙ layer_is long)
      ∙ sym (root_of_long_content file.content p allowed long) ∙ sym (root_key file.content (omega (arith, long))) in
      not_from_true _ ((bytes_eq-Decides _ _).1 same))

  -- the layer that is shown of the file
  pub layer_shown : cond (is_long p (tree_file file)) (layer_of layers (tree_file file)) []
      ≡ piece_layer file.content p
  unfolding piece_layer
  layer_shown = by_length (nat_lt p (length file.content)) refl
    where
      by_length : (b : Bool) → nat_lt p (length file.content) ≡ b
          → cond b (layer_of layers (tree_file file)) [] ≡ piece_layer file.content p
      by_length true e = layer_cut (ltb-true p (length file.content) e)
      by_length false e =
          sym (cond-true _ [] _ (le-leb (length file.content) p (ltb-false p (length file.content) e)))
