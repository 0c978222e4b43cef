-- The pieces of a content, and their sums: of no byte, of whole pieces and what comes after them, of one piece.
use Rattle.std.proofs.Common.{◌≡◌, ℕ, zero, suc, ◌+◌, ◌*◌, ◌<◌, ◌≤◌, List, [], ◌∷◌, ◌++◌, length, map, take, drop}
use Rattle.std.proofs.Common.{arith, refl, ap, ap₂, ◌∙◌, sym, append_assoc, append-nil, length-append, length-drop}
use Rattle.std.proofs.Math.Seq.{drop-append-add}
use Rattle.std.proofs.lemmas.Grind.{div_ceil_times}
use Rattle.std.proofs.lemmas.List.Concat.{flat_map-append}
use Rattle.std.proofs.lemmas.List.{take-append-drop, take_at, take_all, length-take-le, nil_from_length}
use Rattle.std.specs.Fork.{slice_chunk}
use Rattle.std.specs.Int.{div_ceil}
use Rattle.std.specs.List.{flat_map, range_with_len}
use Rattle.sha1.specs.Sha1.{sha1}
use Rattle.tor_v1.specs.Piece.{pieces_of, piece_sums}
use Rattle.tor_merkle.proofs.ProvedLaws.{ceil_is}

-- numbers from the next one on
map-next : {X : Type 0} (f g : ℕ → X) (a n : ℕ) → ((i : ℕ) → f (i + 1) ≡ g i)
    → map f (range_with_len (a + 1) n) ≡ map g (range_with_len a n)
map-next f g a zero same = refl
map-next f g a (suc n) same = ap₂ (λ x xs. x ∷ xs) (same a) (map-next f g (a + 1) n same)

module _ (p : ℕ) (pos : 0 < p) where
  more_pieces : (x ys : List ℕ) → length x ≡ p → div_ceil (length (x ++ ys)) p ≡ suc (div_ceil (length ys) p)
  more_pieces x ys whole = more (div_ceil (length ys) p) (div_ceil_times (length ys) p pos) where
    more : (q : ℕ) → (length ys ≤ q * p) × (q * p < length ys + p) → div_ceil (length (x ++ ys)) p ≡ suc q
    more q bounds =
        let long = length-append x ys in
        let next : suc q * p ≡ q * p + p = omega arith in
        ceil_is (length (x ++ ys)) p (suc q) (omega (arith, long, whole, next, bounds.0))
        (omega (arith, long, whole, next, bounds.1))

  -- one whole piece, and what comes after it
  pieces_first : (x ys : List ℕ) → length x ≡ p → pieces_of p (x ++ ys) ≡ x ∷ pieces_of p ys
  unfolding pieces_of
  pieces_first x ys whole =
      let cut = slice_chunk (x ++ ys) p in
      let first : cut 0 ≡ x =
      ap (λ n. take p (drop n (x ++ ys))) (let e : 0 * p ≡ 0 = omega arith in e) ∙ take_at x ys p whole in
      ap (λ n. map cut (range_with_len 0 n)) (more_pieces x ys whole)
      ∙ ap₂ (λ a b. a ∷ b) first
      (map-next cut (slice_chunk ys p) 0 (div_ceil (length ys) p)
      (λ i. ap (take p) (ap (λ n. drop n (x ++ ys)) (let e : (i + 1) * p ≡ length x + i * p = omega (arith, whole) in e)
      ∙ drop-append-add x ys (i * p))))

  pub pieces_nil : pieces_of p [] ≡ []
  unfolding pieces_of
  pieces_nil = ap (λ n. map (slice_chunk [] p) (range_with_len 0 n)) (ceil_is 0 p 0 (omega arith) (omega arith))

  -- so many whole pieces, and what comes after them
  pub pieces-append : (k : ℕ) (xs ys : List ℕ) → length xs ≡ k * p
      → pieces_of p (xs ++ ys) ≡ pieces_of p xs ++ pieces_of p ys
  pieces-append zero xs ys whole =
      let none = nil_from_length xs (omega (arith, whole)) in
      ap (λ zs. pieces_of p (zs ++ ys)) none
      ∙ sym (ap (λ zs. pieces_of p zs ++ pieces_of p ys) none ∙ ap (λ zs. zs ++ pieces_of p ys) pieces_nil)
  pieces-append (suc k) xs ys whole =
      let x = take p xs in
      let rest = drop p xs in
      let next : suc k * p ≡ k * p + p = omega arith in
      let first : length x ≡ p = length-take-le p xs (omega (arith, whole, next)) in
      let others : length rest ≡ k * p = omega (arith, length-drop p xs, whole, next) in
      let split = take-append-drop p xs in
      ap (λ zs. pieces_of p (zs ++ ys)) (sym split) ∙ ap (pieces_of p) (append_assoc x rest ys)
      ∙ pieces_first x (rest ++ ys) first ∙ ap (λ zs. x ∷ zs) (pieces-append k rest ys others)
      ∙ ap (λ zs. zs ++ pieces_of p ys) (sym (pieces_first x rest first) ∙ ap (pieces_of p) split)

  pub sums-append : (k : ℕ) (xs ys : List ℕ) → length xs ≡ k * p
      → piece_sums p (xs ++ ys) ≡ piece_sums p xs ++ piece_sums p ys
  unfolding piece_sums
  sums-append k xs ys whole =
      ap (flat_map _) (pieces-append k xs ys whole) ∙ flat_map-append _ (pieces_of p xs) (pieces_of p ys)

pub piece_sums-nil : (p : ℕ) → 0 < p → piece_sums p [] ≡ []
unfolding piece_sums
piece_sums-nil p pos = ap (flat_map sha1) (pieces_nil p pos)

pub one_piece : (p : ℕ) (xs : List ℕ) → 0 < length xs → length xs ≤ p → pieces_of p xs ≡ xs ∷ []
unfolding pieces_of
one_piece p xs some short =
    ap (λ n. map (slice_chunk xs p) (range_with_len 0 n)) (ceil_is (length xs) p 1 (omega arith) (omega arith))
    ∙ ap (λ piece. piece ∷ [])
    (ap (λ n. take p (drop n xs)) (let e : 0 * p ≡ 0 = omega arith in e) ∙ take_all p xs short)

pub sums_of_one : (p : ℕ) (xs : List ℕ) → 0 < length xs → length xs ≤ p → piece_sums p xs ≡ sha1 xs
unfolding piece_sums
sums_of_one p xs some short = ap (flat_map sha1) (one_piece p xs some short) ∙ append-nil (sha1 xs)

-- one piece more, whole or not
pub piece_sums-append : (p k : ℕ) (xs ys : List ℕ) → length xs ≡ k * p → 0 < length ys → length ys ≤ p
    → piece_sums p (xs ++ ys) ≡ piece_sums p xs ++ sha1 ys
piece_sums-append p k xs ys whole some short =
    sums-append p (omega arith) k xs ys whole ∙ ap (λ sums. piece_sums p xs ++ sums) (sums_of_one p ys some short)
