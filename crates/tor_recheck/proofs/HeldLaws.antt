-- Which pieces hold, and which are there and right.
use Rattle.tor_recheck.proofs.Names.{◌≡◌, ◌≢◌, ℕ, ◌<◌, Bool, true, false, not, ◌&&◌, ◌||◌, List, get_or, refl, ap, sym}
use Rattle.tor_recheck.proofs.Names.{◌∙◌, arith, inl, inr, length, cases_Bool, cond-false, cond-true, fill_by_all}
use Rattle.tor_recheck.proofs.Names.{and_parts, get_or-map-range_with_len, held_pieces, IsCut, is_sha1_piece}
use Rattle.tor_recheck.proofs.Names.{is_verified, merkle_pieces, verified_pieces, View, has_v1, has_v2, Kind, V1, V2}
use Rattle.tor_recheck.proofs.Names.{Hybrid}
use Rattle.tor_recheck.proofs.HeldPieces.{count_of_merkle}

no_first_side : (kind : Kind) → kind ≢ Hybrid → has_v2 kind ≡ true → has_v1 kind ≡ false
no_first_side V1 other two = cc
no_first_side V2 other two = refl
no_first_side Hybrid other two = absurd (other refl)

-- what a side that is not there says counts for nothing
by_second : (one two x y : Bool) → one ≡ false → two ≡ true → ((not one || x) && (not two || y)) ≡ y
by_second true two x y none some = cc
by_second false true x y none some = refl
by_second false false x y none some = cc

second_of : (one two x y : Bool) → two ≡ true → ((not one || x) && (not two || y)) ≡ true → y ≡ true
second_of one true x y some both = (and_parts (not one || x) y both).1
second_of one false x y some both = cc

module _ (view : View) (contents : List (List ℕ)) (cut : IsCut view) where
  abbrev merkle : List Bool
  merkle = merkle_pieces view.piece_length view.files contents

  -- each is counted on both sides
  count_is : has_v2 view.kind ≡ true → length merkle ≡ view.piece_count
  count_is two =
      count_of_merkle view.piece_length view.files contents
      ∙ sym (cut.count ∙ cond-true (has_v2 view.kind) _ _ two)

  pub held_are_verified : view.kind ≢ Hybrid → held_pieces view contents ≡ verified_pieces view contents
  held_are_verified other = elim (cases_Bool (has_v2 view.kind)) [
    | inl two ↦
        cond-true (has_v2 view.kind) merkle (verified_pieces view contents) two
        ∙ fill_by_all (is_verified view contents) merkle view.piece_count false (count_is two)
        (λ k lt. sym (by_second (has_v1 view.kind) (has_v2 view.kind) (is_sha1_piece view contents k)
        (get_or merkle k false) (no_first_side view.kind other two) two))
    | inr none ↦ cond-false (has_v2 view.kind) merkle (verified_pieces view contents) none
  ]

  pub verified_hold : (k : ℕ) → k < view.piece_count → get_or (verified_pieces view contents) k false ≡ true
      → get_or (held_pieces view contents) k false ≡ true
  verified_hold k lt right = elim (cases_Bool (has_v2 view.kind)) [
    | inl two ↦
        ap (λ (held : List Bool). get_or held k false)
        (cond-true (has_v2 view.kind) merkle (verified_pieces view contents) two)
        ∙ second_of (has_v1 view.kind) (has_v2 view.kind) (is_sha1_piece view contents k) (get_or merkle k false) two
        (sym (get_or-map-range_with_len (is_verified view contents) 0 view.piece_count k k false lt (omega arith))
        ∙ right)
    | inr none ↦
        ap (λ (held : List Bool). get_or held k false)
        (cond-false (has_v2 view.kind) merkle (verified_pieces view contents) none) ∙ right
  ]
