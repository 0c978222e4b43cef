-- What a lot has of a torrent, and what is found of it, by the plan of its pieces.
use Rattle.tor_recheck.proofs.Names.{◌≡◌, ℕ, ◌+◌, ◌-◌, ◌*◌, ◌<◌, ◌≤◌, Bool, true, false, List, [], ◌++◌, length, map}
use Rattle.tor_recheck.proofs.Names.{take, drop}
use Rattle.tor_recheck.proofs.Names.{get_or, get_or-map-range_with_len, zero-add}
use Rattle.tor_recheck.proofs.Names.{Option, None, min, arith, refl, sym, ap, ap₂, ◌∙◌, inl, inr, replicate}
use Rattle.tor_recheck.proofs.Names.{length-append, length-map, length-map-range_with_len, length-replicate, list_any}
use Rattle.tor_recheck.proofs.Names.{range_with_len, contents_in, div_ceil, hash_if_there, is_within, HaveHashesOf}
use Rattle.tor_recheck.proofs.Names.{PieceHash, PlanFacts, plan_of_entries, IsCut, entries_to_cut, pieces_of}
use Rattle.tor_recheck.proofs.Names.{all_judged}
use Rattle.tor_recheck.proofs.Names.{has_bytes_of, verified_pieces, is_verified, View, SourceFacts, option_map}
use Rattle.tor_recheck.proofs.Names.{option_or}
use Rattle.tor_recheck.proofs.Names.{PlanUnit, filter, length-drop, length-take, asked_fault, first_of, of_engine_error}
use Rattle.tor_recheck.proofs.Names.{first_asked_fault, pieces_fault, IsFault, EngineError, is_some}
use Rattle.tor_recheck.proofs.DealtLots.{lots_rise}
use Rattle.tor_recheck.proofs.LotFound.{bits_of_lot, faults_same, hashes_same, units_counted}
use Rattle.tor_view.proofs.ProvedLaws.{pieces_are_counted}
use Rattle.tor_recheck.proofs.Rechecked.{count_is, count_of_judged, pieces_are}
use Rattle.tor_recheck.specs.Lots.{IsFileOfLot, first_lot_fault, first_of_lot, in_lot, lot_byte}
use Rattle.tor_recheck.specs.steps.Hashes.{cut_plan, hashes_in_lot}
use Rattle.tor_recheck.specs.steps.Lots.{is_own, own_facts}
use Rattle.tor_engine.specs.PieceFault.{some_pieces_fault}
use Rattle.tor_engine.specs.PieceHashes.{hashes_of_pieces, pieces_between}
use Rattle.tor_sums.specs.Fault as engine

in_lot_is : {X : Type 0} (xs : List X) (lots lot m from to : ℕ) → length xs ≡ m → from ≡ first_of_lot m lots lot
    → to ≡ first_of_lot m lots (lot + 1) → take (to - from) (drop from xs) ≡ in_lot lots lot xs
in_lot_is xs lots lot m from to count begins ends =
    ap₂ (λ a b. take (b - a) (drop a xs)) (begins ∙ ap (λ n. first_of_lot n lots lot) (sym count))
    (ends ∙ ap (λ n. first_of_lot n lots (lot + 1)) (sym count))

module _ (view : View) (cut : IsCut view) (lots lot from to : ℕ)
    (begins : from ≡ first_of_lot view.piece_count lots lot)
    (ends : to ≡ first_of_lot view.piece_count lots (lot + 1)) where
  abbrev m : ℕ
  m = length (pieces_of view)

  abbrev own_units : List PlanUnit
  own_units = take (to - from) (drop from (pieces_of view))

  from_is : from ≡ first_of_lot m lots lot
  from_is = begins ∙ ap (λ n. first_of_lot n lots lot) (sym (pieces_are_counted view cut))

  to_is : to ≡ first_of_lot m lots (lot + 1)
  to_is = ends ∙ ap (λ n. first_of_lot n lots (lot + 1)) (sym (pieces_are_counted view cut))

  own_is_lot : own_units ≡ in_lot lots lot (pieces_of view)
  own_is_lot = in_lot_is (pieces_of view) lots lot m from to refl from_is to_is

  ordered : from ≤ to
  ordered = let rise = lots_rise m lots lot in omega (arith, rise, from_is, to_is)

  within : from + (to - from) ≤ m
  within = by (8 * lot_byte (div_ceil m 8) lots (lot + 1)) to_is ordered where
    by : (byte : ℕ) → to ≡ min m byte → from ≤ to → from + (to - from) ≤ m
    by byte is le = omega (arith, is, le)

  -- ---- the bits of a lot, by the hashes of its pieces

  -- those of the pieces before it, and its own
  abbrev full : List (Option PieceHash) → List (Option PieceHash)
  full hashes = replicate from None ++ hashes

  pub counted : (hashes : List (Option PieceHash))
      → length hashes ≡ first_of_lot view.piece_count lots (lot + 1) - first_of_lot view.piece_count lots lot
      → length (take (to - from) (drop from (all_judged view (full hashes))))
      ≡ first_of_lot view.piece_count lots (lot + 1) - first_of_lot view.piece_count lots lot
  counted hashes count =
      let bits = all_judged view (full hashes) in
      let taken = length-take (to - from) (drop from bits) in
      let left = length-drop from bits in
      let joined = count_of_judged view (full hashes) ∙ length-append (replicate from None) hashes
      ∙ ap₂ (λ a b. a + b) (length-replicate from None) (count ∙ ap₂ (λ a b. a - b) (sym ends) (sym begins)) in
      let all : length (take (to - from) (drop from bits)) ≡ to - from = omega (arith, taken, left, joined) in
      all ∙ ap₂ (λ a b. a - b) ends begins

  pub bits_found : (contents : List (List ℕ)) (hashes : List (Option PieceHash))
      → hashes ≡ hashes_in_lot view lots lot contents
      → take (to - from) (drop from (all_judged view (full hashes)))
      ≡ in_lot lots lot (verified_pieces view contents)
  bits_found contents hashes are =
      bits_of_lot view cut from (to - from) within contents (full hashes) hashes refl
      (are ∙ ap (map (hash_if_there (cut_plan view) contents)) (sym own_is_lot))
      ∙ in_lot_is (verified_pieces view contents) lots lot m from to count from_is to_is
    where
      count : length (verified_pieces view contents) ≡ m
      count = length-map-range_with_len (is_verified view contents) 0 view.piece_count
          ∙ sym (pieces_are_counted view cut)

  -- ---- what is found of it, by a plan of its pieces

  module _ (plan : PlanFacts)
      (planned : plan ≡ plan_of_entries view.kind view.piece_length 16 (entries_to_cut view)) where
    own_pieces : pieces_between plan from to ≡ own_units
    own_pieces =
        ap (λ (p : PlanFacts). pieces_between p from to) planned
        ∙ ap (λ (pieces : List PlanUnit). take (to - from) (drop from pieces)) (pieces_are view [] cut)

    -- one hash for each of its pieces
    pub hashes_counted : (told : List (Option ℕ)) (hashes : List (Option PieceHash))
        → HaveHashesOf told (pieces_between plan from to) hashes
        → length hashes ≡ first_of_lot view.piece_count lots (lot + 1) - first_of_lot view.piece_count lots lot
    hashes_counted told hashes there =
        sym (length-map hashes is_some)
        ∙ ap length there
        ∙ length-map (pieces_between plan from to) (is_within told)
        ∙ ap length own_pieces
        ∙ units_counted view cut from (to - from) within
        ∙ ap₂ (λ a b. a - b) ends begins

    module _ (own : List Bool)
        (own_is : own ≡ map (λ file. list_any (has_bytes_of file) own_units)
        (range_with_len 0 (length view.files))) where
      -- a file that is asked has bytes in the lot
      pub named_in_lot : (file : ℕ) → file < length view.files → is_own own file ≡ true
          → IsFileOfLot view lots lot file
      named_in_lot file less is =
          ap (list_any (has_bytes_of file)) (sym own_is_lot)
          ∙ sym (ap (λ (files : List Bool). get_or files file false) own_is
          ∙ get_or-map-range_with_len (λ file. list_any (has_bytes_of file) own_units) 0 (length view.files) file file
          false less (zero-add file))
          ∙ is

      module _ {F : Type 0} (facts : SourceFacts F) where
        pub hashes_found : (hashes : List (Option PieceHash))
            → hashes ≡ hashes_of_pieces plan (contents_in (own_facts own facts) (length plan.lengths))
            (pieces_between plan from to)
            → hashes ≡ hashes_in_lot view lots lot (contents_in facts (length view.files))
        hashes_found hashes are =
            are
            ∙ ap (λ (p : PlanFacts). hashes_of_pieces p (contents_in (own_facts own facts) (length p.lengths))
            (pieces_between plan from to)) planned
            ∙ ap₂ (λ n pieces. hashes_of_pieces (cut_plan view) (contents_in (own_facts own facts) n) pieces)
            (count_is view [] cut) own_pieces
            ∙ hashes_same view cut from (to - from) within facts own own_is
            ∙ ap (hashes_of_pieces (cut_plan view) (contents_in facts (length view.files))) own_is_lot

        pub fault_is : option_map of_engine_error (some_pieces_fault (own_facts own facts) plan
            (pieces_between plan from to))
            ≡ first_lot_fault facts view lots lot
        fault_is =
            ap (λ (p : PlanFacts). option_map of_engine_error (some_pieces_fault (own_facts own facts) p
            (pieces_between plan from to))) planned
            ∙ ap₂ (λ n units. option_map of_engine_error (option_or (first_asked_fault (own_facts own facts) n)
            (pieces_fault (own_facts own facts) (contents_in (own_facts own facts) n) units))) (count_is view [] cut)
            own_pieces
            ∙ ap (option_map of_engine_error) (faults_same view cut from (to - from) within facts own own_is)
            ∙ ap (λ units. option_map of_engine_error (option_or (first_of (asked_fault facts)
            (filter (λ file. list_any (has_bytes_of file) units) (range_with_len 0 (length view.files))))
            (pieces_fault facts (contents_in facts (length view.files)) units))) own_is_lot

        pub same_fault : (error : EngineError F)
            → engine.IsFault (some_pieces_fault (own_facts own facts) plan (pieces_between plan from to)) error
            → IsFault (first_lot_fault facts view lots lot) (of_engine_error error)
        same_fault error (inl memory) = inl (ap of_engine_error memory)
        same_fault error (inr first) = inr (sym fault_is ∙ ap (option_map of_engine_error) first)
