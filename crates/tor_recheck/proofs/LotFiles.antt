-- What pieces have of contents, and their faults, are told by the files that have bytes of them alone.
use Rattle.tor_recheck.proofs.Names.{◌≡◌, ℕ, ◌+◌, ◌<◌, Bool, true, false, ◌&&◌, cond, List, [], ◌∷◌, ◌++◌, length}
use Rattle.tor_recheck.proofs.Names.{map, take, drop, get_or, None, Some, arith, refl, sym, ap, ap₂, ◌∙◌}
use Rattle.tor_recheck.proofs.Names.{AllByRecursion, option_map, option_or, unwrap_or, range_with_len, nat_le}
use Rattle.tor_recheck.proofs.Names.{contents_in, hash_if_there, PlanFacts, is_part_there, Part}
use Rattle.tor_recheck.proofs.Names.{PlanUnit, part_content, first_of, SourceFacts, zeros}
use Rattle.tor_recheck.proofs.Names.{asked_fault, pieces_fault, filter, list_all, flat_map, piece_sums, has_v1, has_v2}
use Rattle.tor_recheck.proofs.Names.{get_or-map-range_with_len, Read}
use Rattle.tor_recheck.specs.steps.Lots.{is_own, own_facts}
use Rattle.tor_engine.specs.PieceFault.{piece_fault}
use Rattle.tor_merkle.specs.PieceHash as piece_hash
use Rattle.tor_engine.specs.PieceHashes as engine
use Rattle.tor_sums.specs.Fault.{part_fault}

-- ---- contents

module _ (contents other : List (List ℕ)) where
  abbrev Same : Part → Type 0
  Same part = get_or contents part.file [] ≡ get_or other part.file []

  same_there : (parts : List Part) → AllByRecursion Same parts
      → list_all (is_part_there contents) parts ≡ list_all (is_part_there other) parts
  same_there [] same = refl
  same_there (part ∷ parts) same =
      ap₂ (λ a b. a && b) (ap (λ (file : List ℕ). nat_le (part.start + part.length) (length file)) same.0)
      (same_there parts same.1)

  same_bytes : (parts : List Part) → AllByRecursion Same parts
      → flat_map (part_content contents) parts ≡ flat_map (part_content other) parts
  same_bytes [] same = refl
  same_bytes (part ∷ parts) same =
      ap₂ (λ (a b : List ℕ). a ++ b)
      (ap (λ (file : List ℕ). take part.length (drop part.start file) ++ zeros part.zeros) same.0)
      (same_bytes parts same.1)

  same_root : (plan : PlanFacts) (parts : List Part) → AllByRecursion Same parts
      → engine.hash_of_parts plan contents parts ≡ engine.hash_of_parts plan other parts
  same_root plan [] same = refl
  same_root plan (part ∷ parts) same =
      ap (λ (file : List ℕ). piece_hash.merkle_hash plan.piece_length (get_or plan.lengths part.file 0)
      (take part.length (drop part.start file))) same.0

  same_hash : (plan : PlanFacts) (unit : PlanUnit) → AllByRecursion Same unit.parts
      → hash_if_there plan contents unit ≡ hash_if_there plan other unit
  same_hash plan unit same =
      ap₂ (λ there hash. cond there (Some hash) None) (same_there unit.parts same)
      (ap₂ (λ v1 v2. record { v1 = v1; v2 = v2 })
      (ap (λ (bytes : List ℕ). cond (has_v1 plan.kind) (Some (piece_sums plan.piece_length (zeros unit.zeros ++ bytes))) None)
      (same_bytes unit.parts same))
      (ap (λ (root : List ℕ). cond (has_v2 plan.kind) (Some root) None) (same_root plan unit.parts same)))

  pub same_hashes : (plan : PlanFacts) (units : List PlanUnit)
      → AllByRecursion (λ unit. AllByRecursion Same unit.parts) units
      → map (hash_if_there plan contents) units ≡ map (hash_if_there plan other) units
  same_hashes plan [] same = refl
  same_hashes plan (unit ∷ units) same =
      ap₂ (λ hash hashes. hash ∷ hashes) (same_hash plan unit same.0) (same_hashes plan units same.1)

-- ---- faults

module _ {F : Type 0} (own : List Bool) (facts : SourceFacts F) where
  abbrev some : SourceFacts F
  some = own_facts own facts

  abbrev IsOwn : Part → Type 0
  IsOwn part = is_own own part.file ≡ true

  same_part : (part : Part) → IsOwn part → part_fault some part ≡ part_fault facts part
  same_part part is =
      ap (λ b. first_of (λ offset. option_map (λ fault. Read part.file (Some offset) fault)
      (cond b (facts.byte_fault part.file offset) None)) (range_with_len part.start part.length)) is

  same_parts : (parts : List Part) → AllByRecursion IsOwn parts
      → first_of (part_fault some) parts ≡ first_of (part_fault facts) parts
  unfolding first_of
  same_parts [] are = refl
  same_parts (part ∷ parts) are = ap₂ (λ a b. option_or a b) (same_part part are.0) (same_parts parts are.1)

  same_piece : (contents other : List (List ℕ)) (unit : PlanUnit) → AllByRecursion IsOwn unit.parts
      → AllByRecursion (Same contents other) unit.parts
      → piece_fault some contents unit ≡ piece_fault facts other unit
  same_piece contents other unit are same =
      ap₂ (λ there fault. cond there fault None) (same_there contents other unit.parts same) (same_parts unit.parts are)

  pub same_pieces : (contents other : List (List ℕ)) (units : List PlanUnit)
      → AllByRecursion (λ unit. AllByRecursion IsOwn unit.parts) units
      → AllByRecursion (λ unit. AllByRecursion (Same contents other) unit.parts) units
      → pieces_fault some contents units ≡ pieces_fault facts other units
  unfolding first_of
  same_pieces contents other [] are same = refl
  same_pieces contents other (unit ∷ units) are same =
      ap₂ (λ a b. option_or a b) (same_piece contents other unit are.0 same.0)
      (same_pieces contents other units are.1 same.1)

  -- lengths
  pub asked_own : (test : ℕ → Bool) (files : List ℕ) → AllByRecursion (λ file. is_own own file ≡ test file) files
      → first_of (asked_fault some) files ≡ first_of (asked_fault facts) (filter test files)
  unfolding first_of
  asked_own test [] are = refl
  asked_own test (file ∷ files) are =
      ap (λ b. option_or (option_map (λ fault. Read file None fault) (cond b (facts.length_fault file) None))
      (first_of (asked_fault some) files)) are.0
      ∙ by (test file) (asked_own test files are.1) where
        by : (b : Bool) → first_of (asked_fault some) files ≡ first_of (asked_fault facts) (filter test files)
            → option_or (option_map (λ fault. Read file None fault) (cond b (facts.length_fault file) None))
            (first_of (asked_fault some) files)
            ≡ first_of (asked_fault facts) (cond b (file ∷ filter test files) (filter test files))
        by true rest = ap (λ later. option_or (asked_fault facts file) later) rest
        by false rest = rest

  -- the contents of the files that are own
  pub own_content : (count : ℕ) (part : Part) → part.file < count → IsOwn part
      → get_or (contents_in some count) part.file [] ≡ get_or (contents_in facts count) part.file []
  own_content count part lt is =
      get_or-map-range_with_len (λ file. unwrap_or (some.contents file) []) 0 count part.file part.file [] lt (omega arith)
      ∙ ap (λ b. unwrap_or (cond b (facts.contents part.file) None) []) is
      ∙ sym (get_or-map-range_with_len (λ file. unwrap_or (facts.contents file) []) 0 count part.file part.file [] lt
      (omega arith))
