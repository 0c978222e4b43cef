-- A piece that holds has bytes of each file in whose span it is.
use Rattle.tor_recheck.proofs.Names.{◌≡◌, ℕ, ◌+◌, ◌*◌, ◌<◌, ◌≤◌, ◌==◌, Bool, true, false, List, [], ◌∷◌, length, map}
use Rattle.tor_recheck.proofs.Names.{get_or}
use Rattle.tor_recheck.proofs.Names.{Option, None, ap, subst, sym, ◌∙◌, arith, inl, inr, option_map, unwrap_or}
use Rattle.tor_recheck.proofs.Names.{false≢true}
use Rattle.tor_recheck.proofs.Names.{and_parts, cases_Bool, cond-false, cond-true, eqb-true, leb-true, All, All-get_or}
use Rattle.tor_recheck.proofs.Names.{get_or-map, get_or-map-range_with_len, list_all, list_any, empty_unit}
use Rattle.tor_recheck.proofs.Names.{lengths_of_entries, Part, is_part_there, is_there, entries_to_cut}
use Rattle.tor_recheck.proofs.Names.{has_root, has_sha1, IsCut, pieces_of, file_spans, found_at, held_pieces, no_span}
use Rattle.tor_recheck.proofs.Names.{AreThere, Bad, is_sha1_piece, is_verified, merkle_pieces}
use Rattle.tor_recheck.proofs.Names.{verified_pieces, View, has_v1, has_v2}
use Rattle.tor_recheck.proofs.AllSet.{first_of_sides}
use Rattle.tor_view.proofs.FileStates.{bad_is}
use Rattle.tor_view.proofs.PartsOfFiles.{spans_have_bytes}
use Rattle.tor_view.proofs.PieceSides.{other_side, some_piece}
use Rattle.tor_view.proofs.ProvedLaws.{by_merkle, by_sha1, pieces_are_counted}
use Rattle.tor_view.proofs.SpanBounds.{spans_are_within}
use Rattle.tor_plan.proofs.ProvedLaws.{entry_units_are_within_files}
use Rattle.tor_plan.specs.WithinEntries.{IsInFile, IsUnitWithin}
use Rattle.std.proofs.lemmas.Bool.{or_cases}
use Rattle.std.proofs.lemmas.List.Elements.{All-head, All-tail}

-- a part of the file that is there has bytes of it
some_of_part : (lengths : List ℕ) (contents : List (List ℕ)) (file : ℕ) (parts : List Part)
    → All (IsInFile lengths) parts → list_all (is_part_there contents) parts ≡ true
    → list_any (λ part. part.file == file) parts ≡ true → 0 < length (get_or contents file [])
some_of_part lengths contents file [] all there has = absurd (false≢true has)
some_of_part lengths contents file (part ∷ parts) all there has =
    let both = and_parts (is_part_there contents part) (list_all (is_part_there contents) parts) there in
    let here = All-head (IsInFile lengths) part parts all in
    elim (or_cases (part.file == file) (list_any (λ (one : Part). one.file == file) parts) has) [
      | inl this ↦
          let enough = leb-true (part.start + part.length) (length (get_or contents part.file [])) both.0 in
          subst (λ n. 0 < length (get_or contents n [])) (eqb-true part.file file this)
          (omega (arith, enough, here.some))
      | inr other ↦ some_of_part lengths contents file parts (All-tail (IsInFile lengths) part parts all) both.1 other
    ]

module _ (view : View) (contents : List (List ℕ)) (cut : IsCut view) where
  abbrev held : List Bool
  held = held_pieces view contents

  held_is_there : (k : ℕ) → k < view.piece_count → get_or held k false ≡ true
      → is_there contents (get_or (pieces_of view) k empty_unit) ≡ true
  held_is_there k lt holds =
      let piece = get_or (pieces_of view) k empty_unit in
      let merkle = merkle_pieces view.piece_length view.files contents in
      let below : k < length (pieces_of view) = omega (arith, lt, pieces_are_counted view cut) in
      elim (cases_Bool (has_v2 view.kind)) [
        | inl two ↦ (and_parts (is_there contents piece) (has_root view contents k piece)
            (by_merkle view contents cut k empty_unit below two
            ∙ ap (λ (bits : List Bool). get_or bits k false)
            (sym (cond-true (has_v2 view.kind) merkle (verified_pieces view contents) two)) ∙ holds)).0
        | inr none ↦
            let one = other_side view.kind none in
            let right : is_verified view contents k ≡ true =
            sym (ap (λ (bits : List Bool). get_or bits k false)
            (cond-false (has_v2 view.kind) merkle (verified_pieces view contents) none)
            ∙ get_or-map-range_with_len (is_verified view contents) 0 view.piece_count k k false lt (omega arith))
            ∙ holds in
            (and_parts (is_there contents piece) (has_sha1 view contents k piece)
            (by_sha1 view contents cut k empty_unit below one
            ∙ first_of_sides (has_v1 view.kind) (has_v2 view.kind) (is_sha1_piece view contents k)
            (get_or merkle k false) one right)).0
      ]

  pub held_has_bytes : (file k : ℕ) → (get_or (file_spans view) file no_span).first ≤ k
      → k < (get_or (file_spans view) file no_span).after → get_or held k false ≡ true
      → 0 < length (get_or contents file [])
  held_has_bytes file k low high holds =
      let lt : k < view.piece_count = omega (arith, high, spans_are_within view file cut) in
      let entries = entries_to_cut view in
      let lengths = lengths_of_entries entries in
      let piece = get_or (pieces_of view) k empty_unit in
      let within = All-get_or (IsUnitWithin lengths (1 * view.piece_length)) (pieces_of view) k empty_unit
      (omega (arith, lt, pieces_are_counted view cut))
      (entry_units_are_within_files view.kind view.piece_length 1 entries (omega arith)
      (some_piece view.kind view.piece_length cut.pieces) cut.entries.laid_out) in
      some_of_part lengths contents file piece.parts within.parts (held_is_there k lt holds)
      ((spans_have_bytes view file k cut lt).1 (low, high))

-- a file that is there shares a piece with one that is missing
pub bad_beside_missing : (view : View) (files : List (Option (List ℕ))) → IsCut view → (file other k : ℕ)
    → (get_or (file_spans view) file no_span).first ≤ k → k < (get_or (file_spans view) file no_span).after
    → (get_or (file_spans view) other no_span).first ≤ k → k < (get_or (file_spans view) other no_span).after
    → get_or files other None ≡ None
    → AreThere (get_or (map (option_map length) files) file None) (get_or (file_spans view) file no_span).length
    → (found_at (file_spans view) (map (option_map length) files)
    (held_pieces view (map (λ one. unwrap_or one []) files)) file).state ≡ Bad
bad_beside_missing view files cut file other k low high before after missing there =
    let contents = map (λ (one : Option (List ℕ)). unwrap_or one []) files in
    let held = held_pieces view contents in
    let span = get_or (file_spans view) file no_span in
    let empty = get_or-map (λ (one : Option (List ℕ)). unwrap_or one []) files other None
    ∙ ap (λ (one : Option (List ℕ)). unwrap_or one []) missing in
    (bad_is held span (get_or (map (option_map length) files) file None)).1 (
      there,
      elim (cases_Bool (get_or held k false)) [
        | inl holds ↦
            let some = held_has_bytes view contents cut other k before after holds in
            absurd (omega (arith, some, ap length empty))
        | inr fails ↦ (k, low, high, fails)
      ],
    )
