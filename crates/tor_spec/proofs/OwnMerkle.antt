-- The pieces in the torrent's own contents: those of a v2 side have their Merkle hashes, those of a v1 side their
-- SHA-1.
use Rattle.tor_spec.proofs.Names.{◌≡◌, ℕ, ◌*◌, ◌<◌, Bool, true, false, List, [], ◌∷◌, length, map, take, drop}
use Rattle.tor_spec.proofs.Names.{get_or, unwrap_or, arith, refl, ap, ◌∙◌, sym, inl, inr, take_all}
use Rattle.tor_spec.proofs.Names.{lt_of_mul-lt-mul_right, zero-add, and_from, cases_lt, cond-false}
use Rattle.tor_spec.proofs.Names.{cond-true, le-ltb, lt-ltb, All-append, All-from_get_or, All-nil}
use Rattle.tor_spec.proofs.Names.{get_or-map-range_with_len, length-map-range_with_len, bytes_eq-Decides, div_ceil}
use Rattle.tor_spec.proofs.Names.{range_with_len, All, nat_lt, bytes_eq, layer_of_long_content, piece_length_bounds}
use Rattle.tor_spec.proofs.Names.{run_at, IsPieceLength, piece_layer, pieces_root, root_of, File, bytes_in, file_bytes}
use Rattle.tor_spec.proofs.Names.{is_whole, file_pieces, is_merkle_piece, merkle_hash, merkle_pieces, told_hash}
use Rattle.tor_spec.proofs.Names.{FileView, joined_bytes, is_sha1_piece, View, AreContentsOf, joined_content, v1_pieces}
use Rattle.tor_spec.proofs.Names.{piece_sums, below_from_ceil}
use Rattle.tor_spec.proofs.MadeHeads.{tree_file}
use Rattle.tor_spec.proofs.MadeListPieces.{contents_of}
use Rattle.tor_spec.proofs.OwnBytes.{bytes_there, file_there, run_there, there, whole_there, joined_there}
use Rattle.tor_spec.proofs.OwnRoots.{root_of_piece}
use Rattle.tor_spec.proofs.OwnSums.{sum_of_piece}

pub same_bytes : (xs ys : List ℕ) → xs ≡ ys → bytes_eq xs ys ≡ true
same_bytes xs ys e = (bytes_eq-Decides xs ys).1 e

-- the values of a function that are all true
pub all_true : (f : ℕ → Bool) (n : ℕ) → ((i : ℕ) → i < n → f i ≡ true)
    → All (λ bit. bit ≡ true) (map f (range_with_len 0 n))
all_true f n each =
    All-from_get_or (λ bit. bit ≡ true) (map f (range_with_len 0 n)) false
    (λ i lt. let less : i < n = omega (arith, lt, length-map-range_with_len f 0 n) in
    get_or-map-range_with_len f 0 n i i false less (zero-add i) ∙ each i less)

-- a file of a v2 side with the root and the layer of a content
abbrev pub told_file : ℕ → File → FileView
told_file p file = record {
  file = tree_file file;
  layer = piece_layer file.content p;
}

root_told : (content : List ℕ) → 0 < length content → unwrap_or (root_of content) [] ≡ pieces_root content
root_told [] some = absurd (omega (arith, some))
root_told (byte ∷ bytes) some = refl

module _ (p : ℕ) (allowed : IsPieceLength p) (file : File) where
  abbrev content : List ℕ
  content = file.content

  has_hash : (i : ℕ) → i * p < length content
      → merkle_hash p (told_file p file) (run_at p content i) ≡ told_hash p (told_file p file) i
  has_hash i begun = elim (cases_lt p (length content)) [
    | inl long ↦
        let is : nat_lt p (length content) ≡ true = lt-ltb p (length content) long in
        cond-true (nat_lt p (length content)) _ _ is
        ∙ sym (root_of_piece p allowed [] content i begun)
        ∙ ap (λ layer. get_or layer i []) (sym (layer_of_long_content content p long))
        ∙ sym (cond-true (nat_lt p (length content)) _ _ is)
    | inr le ↦
        let is : nat_lt p (length content) ≡ false = le-ltb p (length content) le in
        let one : i * p < 1 * p = omega (arith, begun, le) in
        let less : i < 1 = lt_of_mul-lt-mul_right p one in
        let first : i ≡ 0 = omega (arith, less) in
        let all : run_at p content i ≡ content =
        ap (λ n. take p (drop (n * p) content)) first
        ∙ ap (λ n. take p (drop n content)) (let e : 0 * p ≡ 0 = omega arith in e) ∙ take_all p content le in
        cond-false (nat_lt p (length content)) _ _ is
        ∙ ap pieces_root all
        ∙ sym (root_told content (omega (arith, begun)))
        ∙ sym (cond-false (nat_lt p (length content)) _ _ is)
  ]

  own_piece : (i : ℕ) → i * p < length content → is_merkle_piece p (told_file p file) content i ≡ true
  own_piece i begun =
      let piece : run_at p (file_bytes (length content) content) i ≡ there (run_at p content i) =
      ap (λ bytes. run_at p bytes i) (file_there (length content) content refl) ∙ run_there p content i in
      and_from _ _ (ap is_whole piece ∙ whole_there (run_at p content i))
      (same_bytes _ _
      (ap (λ bytes. merkle_hash p (told_file p file) (bytes_in bytes)) piece
      ∙ ap (merkle_hash p (told_file p file)) (bytes_there (run_at p content i))
      ∙ has_hash i begun))

  pub own_file : All (λ bit. bit ≡ true) (file_pieces p (told_file p file) content)
  own_file =
      let some : 0 < p = let bounds = (piece_length_bounds p).0 allowed in omega (arith, bounds.1) in
      all_true (is_merkle_piece p (told_file p file) content) (div_ceil (length content) p)
      (λ i lt. own_piece i (below_from_ceil (length content) p i some lt))

pub own_merkle_pieces : (p : ℕ) → IsPieceLength p → (files : List File)
    → All (λ bit. bit ≡ true) (merkle_pieces p (map (told_file p) files) (contents_of files))
own_merkle_pieces p allowed [] = All-nil (λ bit. bit ≡ true)
own_merkle_pieces p allowed (file ∷ files) =
    All-append (λ bit. bit ≡ true) (file_pieces p (told_file p file) file.content)
    (merkle_pieces p (map (told_file p) files) (contents_of files))
    (own_file p allowed file) (own_merkle_pieces p allowed files)

pub own_sha1_piece : (view : View) (contents : List (List ℕ)) → 0 < view.piece_length
    → AreContentsOf view.entries contents → view.pieces ≡ v1_pieces view.piece_length view.entries contents
    → (i : ℕ) → is_sha1_piece view contents i ≡ true
unfolding v1_pieces
own_sha1_piece view contents some fit is i =
    let p = view.piece_length in
    let content = joined_content view.entries contents in
    let piece : run_at p (joined_bytes view.entries contents) i ≡ there (run_at p content i) =
    ap (λ bytes. run_at p bytes i) (joined_there view.entries contents fit) ∙ run_there p content i in
    and_from _ _ (ap is_whole piece ∙ whole_there (run_at p content i))
    (same_bytes _ _
    (ap (λ bytes. piece_sums p (bytes_in bytes)) piece
    ∙ ap (piece_sums p) (bytes_there (run_at p content i))
    ∙ sum_of_piece p some content i
    ∙ ap (λ sums. run_at 20 sums i) (sym is)))
