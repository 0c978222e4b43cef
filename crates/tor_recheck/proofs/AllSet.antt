-- A file that is not empty is whole where its pieces hold, and all such files are where all pieces are there and right.
use Rattle.tor_recheck.proofs.Names.{◌≡◌, ◌↔◌, ℕ, ◌-◌, ◌<◌, ◌≤◌, Bool, true, false, not, ◌&&◌, ◌||◌, List, [], length}
use Rattle.tor_recheck.proofs.Names.{map}
use Rattle.tor_recheck.proofs.Names.{get_or, Option, None, Some, refl, ap, subst, sym, ◌∙◌, arith, inl, inr, option_map}
use Rattle.tor_recheck.proofs.Names.{unwrap_or, and_parts, cases_Bool, cond-false, cond-true}
use Rattle.tor_recheck.proofs.Names.{get_or-map, get_or-map-range_with_len, bytes_eq, run_at, file_spans, found_at}
use Rattle.tor_recheck.proofs.Names.{held_pieces, joined_spans, no_span, tree_spans, AllHold, AreThere, FileSpan, IsCut}
use Rattle.tor_recheck.proofs.Names.{Whole, bytes_in, is_whole, joined_bytes, is_sha1_piece, is_verified, merkle_pieces}
use Rattle.tor_recheck.proofs.Names.{verified_pieces, View, has_v1, has_v2, piece_sums}
use Rattle.tor_view.proofs.FileStates.{whole_is}
use Rattle.tor_view.proofs.FilesThere.{there_in_entries, there_in_tree}
use Rattle.tor_recheck.proofs.HeldLaws.{verified_hold}
use Rattle.tor_view.proofs.PieceSides.{other_side, some_piece}
use Rattle.tor_view.proofs.SpanBounds.{spans_are_within}

pub first_of_sides : (one two x y : Bool) → one ≡ true → ((not one || x) && (not two || y)) ≡ true → x ≡ true
first_of_sides true two x y some both = (and_parts x (not two || y) both).0
first_of_sides false two x y some both = cc

there_of : (file : Option (List ℕ)) (told : ℕ) → 0 < told → told ≤ length (unwrap_or file [])
    → AreThere (option_map length file) told
there_of None told filled le = absurd (omega (arith, filled, le))
there_of (Some content) told filled le = (length content, refl, le)

module _ (view : View) (contents : List (List ℕ)) (cut : IsCut view) where
  abbrev p : ℕ
  p = view.piece_length

  abbrev held : List Bool
  held = held_pieces view contents

  by_entries : has_v2 view.kind ≡ false → (i : ℕ) → AllHold held (get_or (file_spans view) i no_span)
      → (get_or (file_spans view) i no_span).length ≤ length (get_or contents i [])
  by_entries none i all =
      let spans = cond-false (has_v2 view.kind) (tree_spans p 0 view.files) (joined_spans p 0 view.entries) none in
      let within = subst (λ (some : List FileSpan). (get_or some i no_span).after ≤ view.piece_count) spans
      (spans_are_within view i cut) in
      let same = cond-false (has_v2 view.kind) (merkle_pieces p view.files contents) (verified_pieces view contents)
      none in
      let each = subst (λ (some : List FileSpan). AllHold held (get_or some i no_span)) spans all in
      subst (λ (some : List FileSpan). (get_or some i no_span).length ≤ length (get_or contents i [])) (sym spans)
      (there_in_entries p (some_piece view.kind p cut.pieces) view.entries contents [] 0 i refl
      (λ k low high.
      let right : is_verified view contents k ≡ true =
      sym (ap (λ (bits : List Bool). get_or bits k false) same
      ∙ get_or-map-range_with_len (is_verified view contents) 0 view.piece_count k k false
      (omega (arith, high, within)) (omega arith))
      ∙ each k low high in
      let run = run_at p (joined_bytes view.entries contents) k in
      (and_parts (is_whole run) (bytes_eq (piece_sums p (bytes_in run)) (run_at 20 view.pieces k))
      (first_of_sides (has_v1 view.kind) (has_v2 view.kind) (is_sha1_piece view contents k)
      (get_or (merkle_pieces p view.files contents) k false) (other_side view.kind none) right)).0))

  by_tree : has_v2 view.kind ≡ true → (i : ℕ) → AllHold held (get_or (file_spans view) i no_span)
      → (get_or (file_spans view) i no_span).length ≤ length (get_or contents i [])
  by_tree two i all =
      let spans = cond-true (has_v2 view.kind) (tree_spans p 0 view.files) (joined_spans p 0 view.entries) two in
      let same = cond-true (has_v2 view.kind) (merkle_pieces p view.files contents) (verified_pieces view contents) two
      in
      let each = subst (λ (some : List FileSpan). AllHold held (get_or some i no_span)) spans all in
      subst (λ (some : List FileSpan). (get_or some i no_span).length ≤ length (get_or contents i [])) (sym spans)
      (there_in_tree p (some_piece view.kind p cut.pieces) view.files contents 0 i
      (λ k low high.
      ap (λ n. get_or (merkle_pieces p view.files contents) n false) (let e : k - 0 ≡ k = omega arith in e)
      ∙ ap (λ (bits : List Bool). get_or bits k false) (sym same)
      ∙ each k low high))

  bytes_are_there : (i : ℕ) → AllHold held (get_or (file_spans view) i no_span)
      → (get_or (file_spans view) i no_span).length ≤ length (get_or contents i [])
  bytes_are_there i all = elim (cases_Bool (has_v2 view.kind)) [
    | inl two ↦ by_tree two i all
    | inr none ↦ by_entries none i all
  ]

module _ (view : View) (files : List (Option (List ℕ))) (cut : IsCut view) where
  -- a file that is missing has no byte
  abbrev there : List (List ℕ)
  there = map (λ file. unwrap_or file []) files

  pub whole_by_pieces : (i : ℕ) → 0 < (get_or (file_spans view) i no_span).length
      → ((found_at (file_spans view) (map (option_map length) files) (held_pieces view there) i).state ≡ Whole)
      ↔ AllHold (held_pieces view there) (get_or (file_spans view) i no_span)
  whole_by_pieces i filled =
      let span = get_or (file_spans view) i no_span in
      let file = get_or files i None in
      let both = whole_is (held_pieces view there) span (get_or (map (option_map length) files) i None) in
      let size = get_or-map (λ (one : Option (List ℕ)). option_map length one) files i None in
      let content = get_or-map (λ (one : Option (List ℕ)). unwrap_or one []) files i None in (
        λ is. (both.0 is).1,
        λ all.
            let enough : span.length ≤ length (unwrap_or file []) =
            subst (λ (bytes : List ℕ). span.length ≤ length bytes) content (bytes_are_there view there cut i all) in
            both.1 (
              subst (λ (one : Option ℕ). AreThere one span.length) (sym size)
                  (there_of file span.length filled enough),
              all,
            ),
      )

  pub all_are_whole : ((k : ℕ) → k < view.piece_count → get_or (verified_pieces view there) k false ≡ true)
      → (i : ℕ) → 0 < (get_or (file_spans view) i no_span).length
      → (found_at (file_spans view) (map (option_map length) files) (held_pieces view there) i).state ≡ Whole
  all_are_whole all i filled =
      (whole_by_pieces i filled).1 (λ k low high.
      let lt : k < view.piece_count = omega (arith, high, spans_are_within view i cut) in
      verified_hold view there cut k lt (all k lt))
