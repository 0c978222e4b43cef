-- What is found of the pieces of a lot by a source of its own files alone.
use Rattle.tor_recheck.proofs.Names.{◌≡◌, ℕ, zero, suc, ◌+◌, ◌*◌, ◌<◌, ◌≤◌, ◌==◌, Bool, true, false, List, [], ◌∷◌}
use Rattle.tor_recheck.proofs.Names.{◌++◌, length, map, take, drop, get_or, Option, None, arith, refl, sym, ap, ap₂, ◌∙◌}
use Rattle.tor_recheck.proofs.Names.{subst, take_all, replicate, length-append}
use Rattle.tor_recheck.proofs.Names.{length-replicate, length-map, length-map-range_with_len}
use Rattle.tor_recheck.proofs.Names.{get_or-map-range_with_len, range_with_len, All, AllByRecursion, list_any, eq-eqb}
use Rattle.tor_recheck.proofs.Names.{contents_in, hash_if_there, PieceHash, PlanFacts, plan_of_entries, Part, PlanUnit}
use Rattle.tor_recheck.proofs.Names.{IsCut, entries_to_cut, pieces_of, right_pieces, all_judged, judged, has_bytes_of}
use Rattle.tor_recheck.proofs.Names.{verified_pieces, View, SourceFacts, lengths_of_entries, option_or}
use Rattle.tor_recheck.proofs.Names.{first_asked_fault, pieces_fault, asked_fault, first_of, length-take}
use Rattle.tor_recheck.proofs.Names.{length-drop, All-from_recursion, filter, is_right}
use Rattle.tor_view.proofs.FromIndex.{range_split}
use Rattle.tor_recheck.proofs.LotFiles.{asked_own, own_content, same_hashes, same_pieces}
use Rattle.tor_recheck.proofs.LotPieces.{dropped, pieces_within, taken}
use Rattle.tor_view.proofs.ProvedLaws.{pieces_are_verified_by_units}
use Rattle.tor_recheck.proofs.Rechecked.{count_is, judged_from}
use Rattle.tor_recheck.specs.steps.Lots.{is_own, own_facts}
use Rattle.tor_plan.specs.WithinEntries.{IsUnitWithin}
use Rattle.std.proofs.Math.Seq.{drop-append_seam}
use Rattle.std.proofs.lemmas.List.Elements.{recursion_from_All}
use Rattle.std.proofs.lemmas.List.Folds.{list_any_at}
use Rattle.std.proofs.lemmas.List.FromFn.{get_or-range_with_len, length-range_with_len}

-- ---- the bits

right_drop : (view : View) (contents : List (List ℕ)) (n i : ℕ) (pieces : List PlanUnit)
    → drop n (right_pieces view contents i pieces) ≡ right_pieces view contents (i + n) (drop n pieces)
unfolding right_pieces
right_drop view contents zero i pieces =
    ap (λ k. right_pieces view contents k pieces) (let e : i ≡ i + 0 = omega arith in e)
right_drop view contents (suc n) i [] = refl
right_drop view contents (suc n) i (piece ∷ pieces) =
    right_drop view contents n (i + 1) pieces
    ∙ ap (λ k. right_pieces view contents k (drop n pieces)) (let e : i + 1 + n ≡ i + suc n = omega arith in e)

right_take : (view : View) (contents : List (List ℕ)) (n i : ℕ) (pieces : List PlanUnit)
    → take n (right_pieces view contents i pieces) ≡ right_pieces view contents i (take n pieces)
unfolding right_pieces
right_take view contents zero i pieces = refl
right_take view contents (suc n) i [] = refl
right_take view contents (suc n) i (piece ∷ pieces) = ap (λ bits. is_right view contents i piece ∷ bits) (right_take view contents n (i + 1) pieces)

module _ (view : View) (cut : IsCut view) (from count : ℕ) (within : from + count ≤ length (pieces_of view)) where
  abbrev own_units : List PlanUnit
  own_units = take count (drop from (pieces_of view))

  abbrev plan : PlanFacts
  plan = plan_of_entries view.kind view.piece_length 1 (entries_to_cut view)

  pub units_counted : length own_units ≡ count
  units_counted =
      let all = length-take count (drop from (pieces_of view)) in
      let left = length-drop from (pieces_of view) in
      omega (arith, all, left, within)

  -- hashes of the own pieces, after so many that have none, tell which of these are right
  pub bits_of_lot : (contents : List (List ℕ)) (full hashes : List (Option PieceHash))
      → full ≡ replicate from None ++ hashes → hashes ≡ map (hash_if_there plan contents) own_units
      → take count (drop from (all_judged view full)) ≡ take count (drop from (verified_pieces view contents))
  bits_of_lot contents full hashes is are =
      ap (take count) (ap (drop from) halves ∙ seam) ∙ all ∙ judged_own ∙ sym right
    where
      hashed : length hashes ≡ count
      hashed = ap length are ∙ length-map own_units (hash_if_there plan contents) ∙ units_counted

      total : length full ≡ from + count
      total = ap length is ∙ length-append (replicate from None) hashes
          ∙ ap₂ (λ a b. a + b) (length-replicate from None) hashed

      halves : all_judged view full ≡ map (judged view full) (range_with_len 0 from) ++ map (judged view full) (range_with_len from count)
      halves =
          ap (λ n. map (judged view full) (range_with_len 0 n)) total
          ∙ range_split (judged view full) 0 from count
          ∙ ap (λ a. map (judged view full) (range_with_len 0 from) ++ map (judged view full) (range_with_len a count))
          (let e : 0 + from ≡ from = omega arith in e)

      seam : drop from (map (judged view full) (range_with_len 0 from) ++ map (judged view full) (range_with_len from count))
          ≡ map (judged view full) (range_with_len from count)
      seam =
          let before = map (judged view full) (range_with_len 0 from) in
          let after = map (judged view full) (range_with_len from count) in
          subst (λ n. drop n (before ++ after) ≡ after) (length-map-range_with_len (judged view full) 0 from)
          (drop-append_seam before after)

      all : take count (map (judged view full) (range_with_len from count)) ≡ map (judged view full) (range_with_len from count)
      all = take_all count (map (judged view full) (range_with_len from count))
          (let n = length-map-range_with_len (judged view full) from count in omega (arith, n))

      rest : drop from full ≡ map (hash_if_there plan contents) own_units
      rest =
          ap (drop from) is
          ∙ subst (λ n. drop n (replicate from None ++ hashes) ≡ hashes) (length-replicate from None)
          (drop-append_seam (replicate from None) hashes)
          ∙ are

      judged_own : map (judged view full) (range_with_len from count) ≡ right_pieces view contents from own_units
      judged_own =
          ap (λ n. map (judged view full) (range_with_len from n)) (sym units_counted)
          ∙ judged_from view contents cut full from own_units rest

      right : take count (drop from (verified_pieces view contents)) ≡ right_pieces view contents from own_units
      right =
          ap (λ (bits : List Bool). take count (drop from bits)) (pieces_are_verified_by_units view contents cut)
          ∙ ap (take count) (right_drop view contents from 0 (pieces_of view)
          ∙ ap (λ k. right_pieces view contents k (drop from (pieces_of view))) (let e : 0 + from ≡ from = omega arith in e))
          ∙ right_take view contents count from (drop from (pieces_of view))

  -- ---- the files

  module _ {F : Type 0} (facts : SourceFacts F) (own : List Bool)
      (own_is : own ≡ map (λ file. list_any (has_bytes_of file) own_units) (range_with_len 0 (length view.files))) where
    abbrev n : ℕ
    n = length view.files

    abbrev test : ℕ → Bool
    test file = list_any (has_bytes_of file) own_units

    abbrev some : SourceFacts F
    some = own_facts own facts

    own_at : (file : ℕ) → file < n → is_own own file ≡ test file
    own_at file lt =
        ap (λ (flags : List Bool). get_or flags file false) own_is
        ∙ get_or-map-range_with_len test 0 n file file false lt (omega arith)

    units_within : All (IsUnitWithin (lengths_of_entries (entries_to_cut view)) (1 * view.piece_length)) own_units
    units_within =
        let P = IsUnitWithin (lengths_of_entries (entries_to_cut view)) (1 * view.piece_length) in
        All-from_recursion P own_units (taken P count (drop from (pieces_of view))
        (dropped P from (pieces_of view) (recursion_from_All P (pieces_of view) (pieces_within view cut))))

    -- each file of a part is own
    named : (k : ℕ) (d : PlanUnit) → k < length own_units → (j : ℕ) (e : Part) → j < length (get_or own_units k d).parts
        → (get_or (get_or own_units k d).parts j e).file < n
    named k d lt j e there =
        let inside = (units_within k d lt).parts j e there in
        let files = count_is view [] cut in
        omega (arith, inside.named, files)

    tested : (k : ℕ) (d : PlanUnit) → k < length own_units → (j : ℕ) (e : Part) → j < length (get_or own_units k d).parts
        → test (get_or (get_or own_units k d).parts j e).file ≡ true
    tested k d lt j e there =
        let unit = get_or own_units k d in
        let file = (get_or unit.parts j e).file in
        list_any_at (has_bytes_of file) own_units k d lt
        (list_any_at (λ (part : Part). part.file == file) unit.parts j e there (eq-eqb file file refl))

    parts_own : (k : ℕ) (d : PlanUnit) → k < length own_units
        → All (λ part. (part.file < n) × (is_own own part.file ≡ true)) (get_or own_units k d).parts
    parts_own k d lt j e there =
        let below = named k d lt j e there in
        (below, own_at (get_or (get_or own_units k d).parts j e).file below ∙ tested k d lt j e there)

    own_parts : AllByRecursion (λ unit. AllByRecursion (λ part. is_own own part.file ≡ true) unit.parts) own_units
    own_parts =
        recursion_from_All (λ (unit : PlanUnit). AllByRecursion (λ part. is_own own part.file ≡ true) unit.parts) own_units
        (λ k d lt. recursion_from_All (λ (part : Part). is_own own part.file ≡ true) (get_or own_units k d).parts
        (λ j e there. (parts_own k d lt j e there).1))

    same_parts : AllByRecursion (λ unit. AllByRecursion
        (λ part. get_or (contents_in some n) part.file [] ≡ get_or (contents_in facts n) part.file []) unit.parts) own_units
    same_parts =
        recursion_from_All (λ (unit : PlanUnit). AllByRecursion
        (λ part. get_or (contents_in some n) part.file [] ≡ get_or (contents_in facts n) part.file []) unit.parts) own_units
        (λ k d lt. recursion_from_All
        (λ (part : Part). get_or (contents_in some n) part.file [] ≡ get_or (contents_in facts n) part.file [])
        (get_or own_units k d).parts
        (λ j e there.
        let is = parts_own k d lt j e there in
        own_content own facts n (get_or (get_or own_units k d).parts j e) is.0 is.1))

    pub hashes_same : map (hash_if_there plan (contents_in some n)) own_units
        ≡ map (hash_if_there plan (contents_in facts n)) own_units
    hashes_same = same_hashes (contents_in some n) (contents_in facts n) plan own_units same_parts

    files_own : AllByRecursion (λ file. is_own own file ≡ test file) (range_with_len 0 n)
    files_own =
        recursion_from_All (λ file. is_own own file ≡ test file) (range_with_len 0 n) (λ k d lt.
        let below : k < n = omega (arith, lt, length-range_with_len 0 n) in
        let here : get_or (range_with_len 0 n) k d ≡ k =
        get_or-range_with_len 0 n k d below ∙ (let e : 0 + k ≡ k = omega arith in e) in
        subst (λ file. is_own own file ≡ test file) (sym here) (own_at k below))

    pub faults_same : option_or (first_asked_fault some n) (pieces_fault some (contents_in some n) own_units)
        ≡ option_or (first_of (asked_fault facts) (filter test (range_with_len 0 n)))
        (pieces_fault facts (contents_in facts n) own_units)
    faults_same =
        ap₂ (λ a b. option_or a b) (asked_own own facts test (range_with_len 0 n) files_own)
        (same_pieces own facts (contents_in some n) (contents_in facts n) own_units own_parts same_parts)
