-- What one piece hashes to that is there. Laws of lower crates come in as their statements.
use Rattle.std.proofs.Common.{◌≡◌, ◌<◌, ◌≤◌, ℕ, ◌+◌, ◌*◌, Bool, true, false, true≢false, cond, List, [], ◌∷◌}
use Rattle.std.specs.Prelude.{IsSome}
use Rattle.std.proofs.Common.{◌++◌, length, drop, sum_by, get_or, Option, None, Some, refl, ap, ap₂}
use Rattle.std.proofs.Common.{sym, subst, ◌∙◌, arith, append-nil, is_some, ◌/◌, lt_of_mul-lt-mul_right}
use Rattle.std.specs.Int.{div_ceil}
use Rattle.std.specs.List.{AllByRecursion, flat_map, list_all, slice_get}
use Rattle.std.specs.Simd.{first_chunks}
use Rattle.std.proofs.lemmas.Grind.{div_ceil_times}
use Rattle.std.proofs.lemmas.List.{length-drop, length-replicate, length-take-le, take_all}
use Rattle.std.proofs.lemmas.List.Elements.{recursion_from_All}
use Rattle.std.proofs.lemmas.List.Sums.{sum_by-cons}
use Rattle.tor_plan.specs.Content.{part_content, unit_content}
use Rattle.tor_plan.specs.PlanFacts.{PlanFacts}
use Rattle.tor_plan.specs.Present.{is_part_there, is_there}
use Rattle.tor_plan.specs.WithinEntries.{IsInFile, unit_length}
use Rattle.tor_plan.specs.declared.units.Part.{Part}
use Rattle.tor_plan.specs.declared.units.PlanUnit.{PlanUnit}
use Rattle.tor_source.specs.Source.{SourceFacts}
use Rattle.tor_tree.specs.Kinds.{has_v1, has_v2}
use Rattle.tor_tree.specs.declared.kinds.Kind.{Kind}
use Rattle.tor_tree.specs.declared.kinds.Kind.TheVariants.{V1, V2, Hybrid}
use Rattle.tor_v1.specs.Piece.{piece_sums, zeros}
use Rattle.tor_sums.specs.Fault.{first_of, part_fault, unit_fault}
use Rattle.tor_engine.specs.PieceFault.{piece_fault}
use Rattle.tor_engine.specs.PieceHashes.{hash_if_there, hash_of_parts, piece_hash}
use Rattle.tor_sums.specs.steps.Hashes.{bytes_of_part}
use Rattle.tor_engine.specs.declared.pieces.piece_hash.FoundPiece.{FoundPiece}
use Rattle.tor_engine.specs.declared.pieces.piece_hash.FoundPiece.TheVariants.{Hashed, Unsummed}
use Rattle.tor_engine.specs.steps.Pieces.{HasPieces, IsPaddingSum, IsPiece, hashes_in, owed_to_piece, paid_piece}
use Rattle.tor_engine.specs.steps.Pieces.{sums_in}
use Rattle.tor_sums.proofs.FirstOf.{first_of_none}
use Rattle.tor_engine.proofs.PartsInside.{Inside, parts_in}

-- the law length_of_sums
abbrev pub LengthOfSums : Type 0
LengthOfSums = (p : ℕ) (content : List ℕ) → length (piece_sums p content) ≡ 20 * div_ceil (length content) p

-- ---- the hashes of one piece

one_ceil : (n p : ℕ) → 0 < n → n ≤ p → div_ceil n p ≡ 1
one_ceil n p some le =
    let bounds = div_ceil_times n p (omega (arith, some, le)) in
    let low : 0 < div_ceil n p = lt_of_mul-lt-mul_right p (omega (arith, some, bounds.0)) in
    let high : div_ceil n p < 2 = lt_of_mul-lt-mul_right p (omega (arith, le, bounds.1)) in
    omega (arith, low, high)

one_sum : (sum : List ℕ) → length sum ≡ 20 → sums_in sum ≡ sum ∷ []
one_sum sum long =
    ap (λ n. first_chunks 20 (n / 20) sum) long ∙ ap (λ xs. xs ∷ []) (take_all 20 sum (omega (arith, long)))

-- what is known of a piece by its Merkle hash
abbrev found_by : Bool → Option (List ℕ) → FoundPiece
found_by sums v2 = cond sums (Unsummed v2) (Hashed (record { v1 = None; v2 = v2 }))

pub found_is : (sums : Bool) (v2 : Option (List ℕ)) (own sum : List ℕ) → own ≡ cond sums sum []
    → hashes_in (paid_piece (found_by sums v2) own) ≡ Some (record { v1 = cond sums (Some sum) None; v2 = v2 })
found_is true v2 own sum is = ap (λ xs. Some (record { v1 = Some xs; v2 = v2 })) is
found_is false v2 own sum is = refl

pub is_found : (sums : Bool) (v2 : Option (List ℕ)) → is_some (hashes_in (found_by sums v2)) ≡ true
is_found true v2 = refl
is_found false v2 = refl

pub owed_by : (sums : Bool) (v2 : Option (List ℕ)) → owed_to_piece (found_by sums v2) ≡ cond sums 20 0
owed_by true v2 = refl
owed_by false v2 = refl

-- its one SHA-1 has 20 bytes
pub one_long : (sums_law : LengthOfSums) (plan : PlanFacts) (piece : PlanUnit) → IsPiece plan piece
    → (joined : List ℕ) → length joined ≡ unit_length piece → length (piece_sums plan.piece_length joined) ≡ 20
one_long sums_law plan piece is joined long =
    sums_law plan.piece_length joined
    ∙ ap (λ n. 20 * n) (one_ceil (length joined) plan.piece_length (omega (arith, long, is.some))
    (omega (arith, long, is.within)))

-- and none where the kind has none
pub long_if : (sums_law : LengthOfSums) (plan : PlanFacts) (piece : PlanUnit) → IsPiece plan piece
    → (joined : List ℕ) → length joined ≡ unit_length piece → (b : Bool)
    → cond b 20 0 ≡ length (cond b (piece_sums plan.piece_length joined) [])
long_if sums_law plan piece is joined long true = sym (one_long sums_law plan piece is joined long)
long_if sums_law plan piece is joined long false = refl

-- a piece that is there
module _ (plan : PlanFacts) (contents : List (List ℕ)) (piece : PlanUnit) (is : IsPiece plan piece)
    (there : is_there contents piece ≡ true) where
  abbrev p : ℕ
  p = plan.piece_length

  has_pieces : (parts : List Part) → AllByRecursion (Inside contents) parts
      → AllByRecursion (IsInFile plan.lengths) parts → sum_by (λ part. part.length + part.zeros) parts ≤ p
      → HasPieces p contents parts
  has_pieces [] inside named within = tt
  has_pieces (part ∷ parts) inside named within =
      let content = get_or contents part.file [] in
      let long : length (bytes_of_part contents part) ≡ part.length =
      length-take-le part.length (drop part.start content)
      (omega (arith, inside.0, length-drop part.start content)) in
      let all = sum_by-cons (λ (q : Part). q.length + q.zeros) part parts in (
        (omega (arith, long, named.0.some), omega (arith, long, all, within)),
        has_pieces parts inside.1 named.1 (omega (arith, all, within)),
      )

  pub pieces_there : HasPieces p contents piece.parts
  pieces_there = has_pieces piece.parts (parts_in contents piece.parts there)
      (recursion_from_All (IsInFile plan.lengths) piece.parts is.unit.parts) (omega (arith, is.within))

-- ---- a piece of padding alone

has_sums : (kind : Kind) → has_v2 kind ≡ false → has_v1 kind ≡ true
has_sums V1 none = refl
has_sums V2 none = absurd (true≢false none)
has_sums Hybrid none = absurd (true≢false none)

pub padding_hash : (plan : PlanFacts) (contents : List (List ℕ)) (piece : PlanUnit) (sum : List ℕ)
    → piece.zeros ≡ plan.piece_length → piece.parts ≡ [] → has_v2 plan.kind ≡ false
    → sum ≡ piece_sums plan.piece_length (zeros plan.piece_length)
    → Some (record { v1 = Some sum; v2 = None }) ≡ hash_if_there plan contents piece
padding_hash plan contents piece sum whole bare none is =
    let v1 = has_sums plan.kind none in
    let p = plan.piece_length in
    let content : unit_content contents piece ≡ zeros p =
    ap₂ (λ n parts. zeros n ++ flat_map (part_content contents) parts) whole bare ∙ append-nil (zeros p) in
    let one : Some sum ≡ cond (has_v1 plan.kind) (Some (piece_sums p (unit_content contents piece))) None =
    ap Some (is ∙ ap (piece_sums p) (sym content))
    ∙ sym (ap (λ b. cond b (Some (piece_sums p (unit_content contents piece))) None) v1) in
    let other : None ≡ cond (has_v2 plan.kind) (Some (hash_of_parts plan contents piece.parts)) None =
    sym (ap (λ b. cond b (Some (hash_of_parts plan contents piece.parts)) None) none) in
    let there : true ≡ is_there contents piece = sym (ap (list_all (is_part_there contents)) bare) in
    ap₂ (λ (a b : Option (List ℕ)). Some (record { v1 = a; v2 = b })) one other
    ∙ ap (λ b. cond b (Some (piece_hash plan contents piece)) None) there

pub padding_fault : {F : Type 0} (facts : SourceFacts F) (contents : List (List ℕ)) (piece : PlanUnit)
    → piece.parts ≡ [] → piece_fault facts contents piece ≡ None
padding_fault facts contents piece bare = by_there (is_there contents piece)
  where
    none : first_of (part_fault facts) piece.parts ≡ None
    none = ap (first_of (part_fault facts)) bare ∙ first_of_none (part_fault facts)

    by_there : (b : Bool) → cond b (first_of (part_fault facts) piece.parts) None ≡ None
    by_there true = none
    by_there false = refl

-- ---- a piece that is read

-- its fault is that of the unit that it is
pub fault_there : {F : Type 0} (facts : SourceFacts F) (contents : List (List ℕ)) (piece : PlanUnit)
    → is_there contents piece ≡ true → unit_fault facts piece ≡ piece_fault facts contents piece
fault_there facts contents piece there = ap (λ b. cond b (unit_fault facts piece) None) (sym there)

-- the sum of a whole piece of zeros
pub padding_is : (sums_law : LengthOfSums) (plan : PlanFacts) (sum : List ℕ) (found : Option (List ℕ))
    → 0 < plan.piece_length → has_v2 plan.kind ≡ false
    → sum ≡ piece_sums plan.piece_length (zeros plan.piece_length) → found ≡ slice_get (sums_in sum) 0
    → IsPaddingSum plan found × IsSome found
unfolding zeros
padding_is sums_law plan sum found some none is at =
    let p = plan.piece_length in
    let count = one_ceil (length (zeros p)) p (omega (arith, length-replicate {A = ℕ} p 0, some))
    (omega (arith, length-replicate {A = ℕ} p 0)) in
    let long : length sum ≡ 20 = ap length is ∙ sums_law p (zeros p) ∙ ap (λ n. 20 * n) count in
    subst (λ (o : Option (List ℕ)). IsPaddingSum plan o × IsSome o)
    (sym (at ∙ ap (λ xs. slice_get xs 0) (one_sum sum long))) ((none, is), refl)
