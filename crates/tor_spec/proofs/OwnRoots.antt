-- The i-th hash of a content's pieces is the Merkle hash of piece i, and a torrent with a v2 side has as many pieces as
-- are told of, file by file.
use Rattle.tor_spec.proofs.Names.{◌≡◌, ℕ, ◌+◌, ◌*◌, ◌<◌, ◌≤◌, List, ◌++◌, length, take, drop, get_or, arith, ap, ◌∙◌}
use Rattle.tor_spec.proofs.Names.{sym, inl, inr, take_all, length-drop, take-append-drop, length-take-le}
use Rattle.tor_spec.proofs.Names.{get_or-append-add, cases_lt, count_of_piece_roots, piece_length_bounds}
use Rattle.tor_spec.proofs.Names.{piece_roots_of_joined, root_of_short_content, div_ceil, leaves, run_at, IsPieceLength}
use Rattle.tor_spec.proofs.Names.{piece_level, piece_roots, padded_subtree, true, [], ◌∷◌, map, sum_by, slice_index_or}
use Rattle.tor_spec.proofs.Names.{refl, ap₂, length-append, cond-true, length-map-range_with_len, sum_by-cons, Data}
use Rattle.tor_spec.proofs.Names.{file_pieces, is_merkle_piece, merkle_pieces, pieces_in, info_of, kind_of}
use Rattle.tor_spec.proofs.Names.{piece_length_of, tree_files, FileView, file_of_tree, files_of, tree_piece_count}
use Rattle.tor_spec.proofs.Names.{view_of, files_of_both, listed_files, has_v1, has_v2, if◌then◌else◌, TreeFile}
use Rattle.tor_spec.proofs.Names.{ceil_whole}
use Rattle.tor_spec.proofs.Lettered.{sum_lettered}

module _ (p : ℕ) (allowed : IsPieceLength p) (d : List ℕ) where
  abbrev root : List ℕ → List ℕ
  root piece = padded_subtree (piece_level p) 0 (leaves piece)

  some : 0 < p
  some = let bounds = (piece_length_bounds p).0 allowed in omega (arith, bounds.1)

  only_root : (xs : List ℕ) → 0 < length xs → length xs ≤ p → get_or (piece_roots xs p) 0 d ≡ root xs
  only_root xs more le = ap (λ roots. get_or roots 0 d) (root_of_short_content xs p allowed more le)

  -- the first of a content that is not empty
  first_root : (xs : List ℕ) → 0 < length xs → get_or (piece_roots xs p) 0 d ≡ root (take p xs)
  first_root xs more = elim (cases_lt p (length xs)) [
    | inl long ↦
        let x = take p xs in
        let rest = drop p xs in
        let first : length x ≡ p = length-take-le p xs (omega (arith, long)) in
        let whole : length x ≡ 1 * p = first ∙ omega arith in
        ap (λ zs. get_or (piece_roots zs p) 0 d) (sym (take-append-drop p xs))
        ∙ ap (λ roots. get_or roots 0 d) (piece_roots_of_joined x rest p 1 allowed whole)
        ∙ ap (λ roots. get_or (roots ++ piece_roots rest p) 0 d)
        (root_of_short_content x p allowed (omega (arith, first, some)) (omega (arith, first)))
    | inr le ↦ only_root xs more le ∙ ap root (sym (take_all p xs le))
  ]

  pub root_of_piece : (xs : List ℕ) (i : ℕ) → i * p < length xs
      → get_or (piece_roots xs p) i d ≡ root (run_at p xs i)
  root_of_piece xs i begun =
      let x = take (i * p) xs in
      let rest = drop (i * p) xs in
      let long : length x ≡ i * p = length-take-le (i * p) xs (omega (arith, begun)) in
      let count : length (piece_roots x p) ≡ i =
      count_of_piece_roots x p ∙ ap (λ n. div_ceil n p) long ∙ ceil_whole i p some in
      let here : i ≡ length (piece_roots x p) + 0 = omega (arith, count) in
      ap (λ zs. get_or (piece_roots zs p) i d) (sym (take-append-drop (i * p) xs))
      ∙ ap (λ roots. get_or roots i d) (piece_roots_of_joined x rest p i allowed long)
      ∙ ap (λ n. get_or (piece_roots x p ++ piece_roots rest p) n d) here
      ∙ get_or-append-add (piece_roots x p) (piece_roots rest p) 0 d
      ∙ first_root rest (omega (arith, length-drop (i * p) xs, begun))

abbrev count_of : ℕ → FileView → ℕ
count_of p file = pieces_in p file.file.length

count_of_pieces : (p : ℕ) (files : List FileView) (contents : List (List ℕ))
    → length (merkle_pieces p files contents) ≡ sum_by (count_of p) files
count_of_pieces p [] contents = refl
count_of_pieces p (file ∷ files) contents =
    length-append (file_pieces p file (slice_index_or contents 0 [])) (merkle_pieces p files (drop 1 contents))
    ∙ ap₂ (λ m n. m + n)
    (length-map-range_with_len (is_merkle_piece p file (slice_index_or contents 0 [])) 0 (count_of p file))
    (count_of_pieces p files (drop 1 contents))
    ∙ sym (sum_by-cons (count_of p) file files)

count_of_tree : (p : ℕ) (root : Data) (files : List TreeFile)
    → sum_by (count_of p) (map (file_of_tree root) files) ≡ sum_by (λ file. pieces_in p file.length) files
count_of_tree p root [] = refl
count_of_tree p root (file ∷ files) =
    sum_by-cons (count_of p) (file_of_tree root file) (map (file_of_tree root) files)
    ∙ ap (λ n. pieces_in p file.length + n) (count_of_tree p root files)
    ∙ sym (sum_by-cons (λ (one : TreeFile). pieces_in p one.length) file files)

pub count_shown : (root : Data) (contents : List (List ℕ)) → has_v2 (view_of root).kind ≡ true
    → length (merkle_pieces (view_of root).piece_length (view_of root).files contents) ≡ (view_of root).piece_count
count_shown root contents two =
    let info = info_of root in
    let p = piece_length_of info in
    count_of_pieces p (files_of root) contents
    ∙ ap (sum_by (count_of p)) (cond-true (has_v2 (kind_of info)) _ _ two)
    ∙ count_of_tree p root (files_of_both info)
    ∙ sum_lettered (λ file. pieces_in p file.length) (λ one file. refl)
    (if has_v1 (kind_of info) then listed_files info else []) (tree_files info)
    ∙ sym (cond-true (has_v2 (kind_of info)) (tree_piece_count info) _ two)
