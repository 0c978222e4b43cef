-- The roots and layers of files, from the hashes of all their pieces.
use Rattle.std.proofs.Common.{◌≡◌, ◌≤◌, ◌<◌, ℕ, ◌+◌, ◌-◌, ◌^◌, cond, List, [], ◌∷◌, ◌++◌, length, map, take, drop}
use Rattle.std.proofs.Common.{Option, Some, refl, ap, ap₂, sym, ◌∙◌, arith, inl, inr, replicate}
use Rattle.std.proofs.Common.{append-nil, append_assoc, get_or, lt_of_mul-lt-mul_right}
use Rattle.std.specs.List.{flat_map, slice_get}
use Rattle.std.specs.Int.{div_ceil}
use Rattle.std.proofs.Math.Seq.{drop-append_seam, take-append_seam}
use Rattle.std.proofs.lemmas.Bool.{cases_lt, le-leb, lt-leb}
use Rattle.std.proofs.lemmas.Grind.{div_ceil_times}
use Rattle.std.proofs.lemmas.List.{drop_all, drop_more, length-drop, length-replicate}
use Rattle.std.proofs.lemmas.List.Sums.{sum_by-cons}
use Rattle.tor_engine.specs.Rows.{hash_of_short, hashes_of_file}
use Rattle.tor_merkle.specs.Layer.{IsPieceLength, piece_layer, piece_level, piece_roots, pieces_root, root_of}
use Rattle.tor_merkle.specs.Stack.{padded_root}
use Rattle.tor_merkle.specs.declared.TheConstants.{MAX_LENGTH}
use Rattle.tor_merkle.proofs.ProvedLaws.{ceil_is, count_of_piece_roots, few_piece_roots}
use Rattle.tor_merkle.proofs.ProvedLaws.{piece_length_bounds, root_of_long_content}
use Rattle.tor_parts.specs.Joining.{layer_over, layers_over, pieces_of_lengths, root_over, roots_over}

some_length : (p : ℕ) → IsPieceLength p → 0 < p
some_length p allowed = omega (arith, ((piece_length_bounds p).0 allowed).1)

module _ (p : ℕ) (allowed : IsPieceLength p) where
  -- ---- one file

  short_is : (content : List ℕ) → length content ≤ p → hashes_of_file p content ≡ hash_of_short content
  short_is content short =
      ap (λ b. cond b (hash_of_short content) (piece_roots content p)) (le-leb (length content) p short)

  long_is : (content : List ℕ) → p < length content → hashes_of_file p content ≡ piece_roots content p
  long_is content long =
      ap (λ b. cond b (hash_of_short content) (piece_roots content p)) (lt-leb (length content) p long)

  short_count : (content : List ℕ) → length content ≤ p → length (hash_of_short content) ≡ div_ceil (length content) p
  short_count [] short = sym (ceil_is 0 p 0 (omega arith) (omega (arith, some_length p allowed)))
  short_count (byte ∷ bytes) short = sym (ceil_is (length (byte ∷ bytes)) p 1 (omega (arith, short)) (omega arith))

  pub counted : (content : List ℕ) → length (hashes_of_file p content) ≡ div_ceil (length content) p
  counted content = elim (cases_lt p (length content)) [
    | inl long ↦ ap length (long_is content long) ∙ count_of_piece_roots content p
    | inr short ↦ ap length (short_is content short) ∙ short_count content short
  ]

  short_root : (content : List ℕ) → slice_get (hash_of_short content) 0 ≡ root_of content
  short_root [] = refl
  short_root (byte ∷ bytes) = refl

  some_root : (content : List ℕ) → 0 < length content → Some (pieces_root content) ≡ root_of content
  some_root [] some = absurd (omega (arith, some))
  some_root (byte ∷ bytes) some = refl

  root_is : (content : List ℕ) → root_over p (length content) (hashes_of_file p content) ≡ root_of content
  root_is content = elim (cases_lt p (length content)) [
    | inl long ↦
        ap (λ b. cond b (slice_get (hashes_of_file p content) 0)
        (Some (padded_root (piece_level p) (hashes_of_file p content)))) (lt-leb (length content) p long)
        ∙ ap (λ hs. Some (padded_root (piece_level p) hs)) (long_is content long)
        ∙ ap Some (sym (root_of_long_content content p allowed long))
        ∙ some_root content (omega (arith, long))
    | inr short ↦
        ap (λ b. cond b (slice_get (hashes_of_file p content) 0)
        (Some (padded_root (piece_level p) (hashes_of_file p content)))) (le-leb (length content) p short)
        ∙ ap (λ hs. slice_get hs 0) (short_is content short) ∙ short_root content
  ]

  layer_is : (content : List ℕ) → layer_over p (length content) (hashes_of_file p content) ≡ piece_layer content p
  unfolding piece_layer
  layer_is content = elim (cases_lt p (length content)) [
    | inl long ↦
        ap (λ b. cond b [] (hashes_of_file p content)) (lt-leb (length content) p long) ∙ long_is content long
        ∙ sym (ap (λ b. cond b [] (piece_roots content p)) (lt-leb (length content) p long))
    | inr short ↦
        ap (λ b. cond b [] (hashes_of_file p content)) (le-leb (length content) p short)
        ∙ sym (ap (λ b. cond b [] (piece_roots content p)) (le-leb (length content) p short))
  ]

  -- ---- all files

  own_is : (content : List ℕ) (rest : List (List ℕ))
      → take (div_ceil (length content) p) (hashes_of_file p content ++ rest) ≡ hashes_of_file p content
  own_is content rest =
      ap (λ n. take n (hashes_of_file p content ++ rest)) (sym (counted content))
      ∙ take-append_seam (hashes_of_file p content) rest

  rest_is : (content : List ℕ) (rest : List (List ℕ))
      → drop (div_ceil (length content) p) (hashes_of_file p content ++ rest) ≡ rest
  rest_is content rest =
      ap (λ n. drop n (hashes_of_file p content ++ rest)) (sym (counted content))
      ∙ drop-append_seam (hashes_of_file p content) rest

  pub roots_are : (contents : List (List ℕ))
      → roots_over p (map length contents) (flat_map (hashes_of_file p) contents) ≡ map root_of contents
  unfolding roots_over
  roots_are [] = refl
  roots_are (content ∷ contents) =
      let rest = flat_map (hashes_of_file p) contents in
      ap₂ (λ x xs. x ∷ xs) (ap (root_over p (length content)) (own_is content rest) ∙ root_is content)
      (ap (roots_over p (map length contents)) (rest_is content rest) ∙ roots_are contents)

  pub layers_are : (contents : List (List ℕ))
      → layers_over p (map length contents) (flat_map (hashes_of_file p) contents)
      ≡ map (λ content. piece_layer content p) contents
  unfolding layers_over
  layers_are [] = refl
  layers_are (content ∷ contents) =
      let rest = flat_map (hashes_of_file p) contents in
      ap₂ (λ x xs. x ∷ xs) (ap (layer_over p (length content)) (own_is content rest) ∙ layer_is content)
      (ap (layers_over p (map length contents)) (rest_is content rest) ∙ layers_are contents)

  -- as many hashes as a layer may have
  pub some_pieces : (size : ℕ) → p < size → 0 < div_ceil size p
  some_pieces size long =
      let bounds = div_ceil_times size p (some_length p allowed) in
      lt_of_mul-lt-mul_right p (omega (arith, long, bounds.0))

  pub few_pieces : (size : ℕ) → size ≤ MAX_LENGTH → div_ceil size p ≤ 2 ^ (36 - piece_level p)
  few_pieces size small =
      let content = replicate size 0 in
      let long : length content ≡ size = length-replicate size 0 in
      let few = few_piece_roots content p allowed (omega (arith, long, small)) in
      omega (arith, few, count_of_piece_roots content p ∙ ap (λ n. div_ceil n p) long)

-- ---- a loop over files

module _ (p : ℕ) (lengths : List ℕ) (rest : List (List ℕ)) (i : ℕ) where
  abbrev next : ℕ
  next = div_ceil (get_or lengths i 0) p

  abbrev later : List ℕ
  later = drop (i + 1) lengths

  pub own_counted : i < length lengths → length rest ≡ pieces_of_lengths p (drop i lengths) → next ≤ length rest
  own_counted there counted =
      let more = ap (pieces_of_lengths p) (drop_more lengths i 0 there) in
      omega (arith, counted, more, sum_by-cons (λ m. div_ceil m p) (get_or lengths i 0) later)

  pub left_counted : i < length lengths → length rest ≡ pieces_of_lengths p (drop i lengths)
      → length (drop next rest) ≡ pieces_of_lengths p later
  left_counted there counted =
      let more = ap (pieces_of_lengths p) (drop_more lengths i 0 there) in
      omega (
        arith,
        counted,
        more,
        sum_by-cons (λ m. div_ceil m p) (get_or lengths i 0) later,
        length-drop next rest,
      )

  pub next_roots : (roots all : List (Option (List ℕ))) → i < length lengths
      → roots ++ roots_over p (drop i lengths) rest ≡ all
      → (roots ++ root_over p (get_or lengths i 0) (take next rest) ∷ []) ++ roots_over p later (drop next rest) ≡ all
  unfolding roots_over
  next_roots roots all there so_far =
      append_assoc roots (root_over p (get_or lengths i 0) (take next rest) ∷ []) (roots_over p later (drop next rest))
      ∙ ap (λ ls. roots ++ roots_over p ls rest) (sym (drop_more lengths i 0 there)) ∙ so_far

  pub next_layers : (layers all : List (List (List ℕ))) → i < length lengths
      → layers ++ layers_over p (drop i lengths) rest ≡ all
      → (layers ++ layer_over p (get_or lengths i 0) (take next rest) ∷ []) ++ layers_over p later (drop next rest)
      ≡ all
  unfolding layers_over
  next_layers layers all there so_far =
      append_assoc layers (layer_over p (get_or lengths i 0) (take next rest) ∷ [])
      (layers_over p later (drop next rest))
      ∙ ap (λ ls. layers ++ layers_over p ls rest) (sym (drop_more lengths i 0 there)) ∙ so_far

  pub all_roots : (roots all : List (Option (List ℕ))) → length lengths ≤ i
      → roots ++ roots_over p (drop i lengths) rest ≡ all → roots ≡ all
  unfolding roots_over
  all_roots roots all past so_far =
      sym (append-nil roots) ∙ ap (λ ls. roots ++ roots_over p ls rest) (sym (drop_all i lengths past)) ∙ so_far

  pub all_layers : (layers all : List (List (List ℕ))) → length lengths ≤ i
      → layers ++ layers_over p (drop i lengths) rest ≡ all → layers ≡ all
  unfolding layers_over
  all_layers layers all past so_far =
      sym (append-nil layers) ∙ ap (λ ls. layers ++ layers_over p ls rest) (sym (drop_all i lengths past)) ∙ so_far
