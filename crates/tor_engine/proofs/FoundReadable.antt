-- What is found of pieces as far as they can be read, and joined.
use Rattle.std.proofs.Common.{◌≡◌, ◌≢◌, ℕ}
use Rattle.std.proofs.Common.{cond, List, [], ◌∷◌, ◌++◌, length, map, Option, None, Some}
use Rattle.std.proofs.Common.{arith, is_none, is_some, refl, ap, ap₂, sym, subst, ◌∙◌, append-nil}
use Rattle.std.specs.List.{AllByRecursion, flat_map}
use Rattle.std.proofs.lemmas.Grind.{flat_map-append}
use Rattle.std.proofs.lemmas.List.{map-append}
use Rattle.tor_plan.specs.Pieces.{pieces_of_unit}
use Rattle.tor_plan.specs.PlanFacts.{PlanFacts}
use Rattle.tor_plan.specs.declared.units.PlanUnit.{PlanUnit}
use Rattle.tor_source.specs.Source.{SourceFacts}
use Rattle.tor_sums.specs.Contents.{contents_in}
use Rattle.tor_sums.specs.Fault.{first_of}
use Rattle.tor_sums.specs.declared.errors.EngineError.{EngineError}
use Rattle.tor_sums.specs.steps.Each.{SumUpEach}
use Rattle.tor_sums.proofs.FirstOf.{or_none}
use Rattle.tor_sums.proofs.PartReads.{all_append}
use Rattle.tor_engine.specs.PieceFault.{piece_fault, pieces_fault}
use Rattle.tor_engine.specs.PieceHashes.{hash_if_there}
use Rattle.tor_engine.specs.Readable.{HasHashWithin, error_of_fault, hash_if_readable, piece_faults}
use Rattle.tor_engine.specs.There.{HaveHashesOf, is_within}
use Rattle.tor_engine.specs.declared.pieces.piece_hash.FoundPiece.{FoundPiece}
use Rattle.tor_engine.specs.declared.pieces.piece_hash.FoundPiece.TheVariants as found
use Rattle.tor_engine.specs.declared.pieces.piece_hash.PieceHash.{PieceHash}
use Rattle.tor_engine.specs.declared.pieces.read_fault.ReadFault.{ReadFault}
use Rattle.tor_engine.specs.declared.pieces.readable_unit.ReadableUnit.{ReadableUnit}
use Rattle.tor_engine.specs.steps.Pieces.{AreTold, hashes_in, owed_to_piece, paid_piece}
use Rattle.tor_engine.specs.steps.Readable.{FindsReadable, FindsUnit, unit_hashes_in}
use Rattle.tor_engine.specs.steps.ReadableUnit.{faults_found}
use Rattle.tor_engine.specs.steps.Unsummed.{FindsPiece}
use Rattle.tor_engine.proofs.Each.{each_append, each_none}
use Rattle.tor_engine.proofs.ReadFaults.{nil_both, no_faults, all_readable}

within_each : (told : List (Option ℕ)) (pieces : List PlanUnit) (hashes : List (Option PieceHash))
    → HaveHashesOf told pieces hashes → SumUpEach (HasHashWithin told) pieces hashes
unfolding SumUpEach
within_each told [] [] are = tt
within_each told [] (hash ∷ hashes) are = cc
within_each told (piece ∷ pieces) [] are = cc
within_each told (piece ∷ pieces) (hash ∷ hashes) are =
    let here : is_some hash ≡ is_within told piece = cc in
    let rest : map is_some hashes ≡ map (is_within told) pieces = cc in
    (λ is. sym here ∙ is, within_each told pieces hashes rest)

module _ {F : Type 0} (is_steady : SourceFacts F → Type 0) (may_be : EngineError F → Type 0) (plan : PlanFacts)
    (told : List (Option ℕ)) where
  abbrev Finds : List PlanUnit → List (Option PieceHash) → List (ReadFault F) → Type 0
  Finds pieces hashes faults = FindsReadable is_steady may_be plan told pieces hashes faults

  abbrev contents_of : SourceFacts F → List (List ℕ)
  contents_of facts = contents_in facts (length plan.lengths)

  pub finds_as : {pieces pieces' : List PlanUnit} {hashes hashes' : List (Option PieceHash)}
      {faults faults' : List (ReadFault F)} → pieces ≡ pieces' → hashes ≡ hashes' → faults ≡ faults'
      → Finds pieces hashes faults → Finds pieces' hashes' faults'
  finds_as {pieces = pieces} {pieces' = pieces'} {hashes = hashes} {hashes' = hashes'} {faults = faults}
      {faults' = faults'} same_pieces same_hashes same_faults finds =
      subst (λ (ps : List PlanUnit). Finds ps hashes' faults') same_pieces
      (subst (λ (hs : List (Option PieceHash)). Finds pieces hs faults') same_hashes
      (subst (λ (fs : List (ReadFault F)). Finds pieces hashes fs) same_faults finds))

  pub finds_none : Finds [] [] []
  finds_none = record {
    hashed = λ facts steady are. refl;
    failed = λ facts steady are. refl;
    within = each_none (HasHashWithin told);
    clean = λ none. refl;
    given = tt;
  }

  pub finds_both : (one other : List PlanUnit) (hashes more : List (Option PieceHash))
      (faults others : List (ReadFault F)) → Finds one hashes faults → Finds other more others
      → Finds (one ++ other) (hashes ++ more) (faults ++ others)
  finds_both one other hashes more faults others first second = record {
    hashed = λ facts steady are.
        ap₂ (λ xs ys. xs ++ ys) (first.hashed facts steady are) (second.hashed facts steady are)
        ∙ sym (map-append (hash_if_readable facts plan (contents_of facts)) one other);
    failed = λ facts steady are.
        ap₂ (λ xs ys. xs ++ ys) (first.failed facts steady are) (second.failed facts steady are)
        ∙ sym (flat_map-append (piece_faults facts (contents_of facts)) one other);
    within = each_append (HasHashWithin told) one other hashes more first.within second.within;
    clean = λ none.
        let both = nil_both faults others none in
        map-append is_some hashes more
        ∙ ap₂ (λ xs ys. xs ++ ys) (first.clean both.0) (second.clean both.1)
        ∙ sym (map-append (is_within told) one other);
    given = all_append (λ fault. may_be (error_of_fault fault)) faults others first.given second.given;
  }

  -- where nothing fails
  pub finds_clean : (pieces : List PlanUnit) (hashes : List (Option PieceHash))
      → ((facts : SourceFacts F) → is_steady facts → AreTold told (contents_of facts)
      → hashes ≡ map (hash_if_there plan (contents_of facts)) pieces)
      → HaveHashesOf told pieces hashes
      → ((facts : SourceFacts F) → is_steady facts → AreTold told (contents_of facts)
      → pieces_fault facts (contents_of facts) pieces ≡ None)
      → Finds pieces hashes []
  finds_clean pieces hashes hashed there none = record {
    hashed = λ facts steady are.
        hashed facts steady are
        ∙ all_readable facts (contents_of facts) plan pieces (none facts steady are);
    failed = λ facts steady are. no_faults facts (contents_of facts) pieces (none facts steady are);
    within = within_each told pieces hashes there;
    clean = λ _. there;
    given = tt;
  }

  -- a piece that could not be read
  pub finds_lost : (piece : PlanUnit) (faults : List (ReadFault F))
      → ((facts : SourceFacts F) → is_steady facts → AreTold told (contents_of facts)
      → faults ≡ piece_faults facts (contents_of facts) piece)
      → ((facts : SourceFacts F) → is_steady facts → AreTold told (contents_of facts)
      → (error : EngineError F) × (piece_fault facts (contents_of facts) piece ≡ Some error))
      → faults ≢ [] → AllByRecursion (λ fault. may_be (error_of_fault fault)) faults
      → Finds (piece ∷ []) (None ∷ []) faults
  unfolding SumUpEach
  finds_lost piece faults failed some any given = record {
    hashed = λ facts steady are.
        ap (λ fault. cond (is_none fault) (hash_if_there plan (contents_of facts) piece) None ∷ [])
        (sym (some facts steady are).1);
    failed = λ facts steady are.
        failed facts steady are ∙ sym (append-nil (piece_faults facts (contents_of facts) piece));
    within = (λ is. cc, tt);
    clean = λ none. absurd (any none);
    given = given;
  }

  paid_up : (found : FoundPiece) → owed_to_piece found ≡ 0 → paid_piece found [] ≡ found
  paid_up found.Missing none = refl
  paid_up (found.Hashed hashes) none = refl
  paid_up (found.Unsummed v2) none = absurd (omega (arith, none))

  -- one piece that nothing is owed to
  pub finds_alone : (piece : PlanUnit) (one : FoundPiece) → FindsPiece is_steady plan told piece one []
      → ((facts : SourceFacts F) → is_steady facts → AreTold told (contents_of facts)
      → piece_fault facts (contents_of facts) piece ≡ None)
      → Finds (piece ∷ []) (hashes_in one ∷ []) []
  unfolding first_of
  finds_alone piece one finds none =
      finds_clean (piece ∷ []) (hashes_in one ∷ [])
      (λ facts steady are.
      ap (λ found. hashes_in found ∷ []) (sym (paid_up one finds.long))
      ∙ ap (λ hash. hash ∷ []) (finds.steady facts steady are))
      (ap (λ b. b ∷ []) finds.there)
      (λ facts steady are. or_none (piece_fault facts (contents_of facts) piece) None (none facts steady are))

  -- all units
  pub finds_units : (units : List PlanUnit) (ones : List (ReadableUnit F))
      → SumUpEach (FindsUnit is_steady may_be plan told) units ones
      → Finds (flat_map (pieces_of_unit plan.piece_length) units) (flat_map unit_hashes_in ones)
      (flat_map faults_found ones)
  unfolding SumUpEach
  finds_units [] [] each = finds_none
  finds_units [] (one ∷ ones) each = absurd each
  finds_units (unit ∷ units) [] each = absurd each
  finds_units (unit ∷ units) (one ∷ ones) each =
      finds_both (pieces_of_unit plan.piece_length unit) (flat_map (pieces_of_unit plan.piece_length) units)
      (unit_hashes_in one) (flat_map unit_hashes_in ones) (faults_found one)
      (flat_map faults_found ones) each.0 (finds_units units ones each.1)
