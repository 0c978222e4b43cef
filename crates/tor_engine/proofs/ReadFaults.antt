-- What a read of parts and of pieces answers: the faults that are told of it, and no other error.
use Rattle.std.proofs.Common.{◌≡◌, ◌≤◌, ◌<◌, ◌+◌, ℕ, zero, suc, append_assoc, get_or, take, Bool, true, false}
use Rattle.std.proofs.Common.{cond, List, [], ◌∷◌, ◌++◌, length, map, Option, None, Some}
use Rattle.std.proofs.Common.{arith, is_none, refl, ap, ap₂, sym, ◌∙◌, append-nil, option_map}
use Rattle.std.specs.List.{flat_map, range_with_len}
use Rattle.std.specs.Option.{option_or}
use Rattle.std.specs.Prelude.{Err, IfErr, IfOk, Ok, OnOk, Result}
use Rattle.std.proofs.lemmas.Grind.{flat_map-append}
use Rattle.std.proofs.lemmas.List.{take_more}
use Rattle.tor_plan.specs.PlanFacts.{PlanFacts}
use Rattle.tor_plan.specs.Present.{is_there}
use Rattle.tor_plan.specs.declared.units.Part.{Part}
use Rattle.tor_plan.specs.declared.units.PlanUnit.{PlanUnit}
use Rattle.tor_source.specs.Answers.{Answers}
use Rattle.tor_source.specs.Source.{SourceFacts}
use Rattle.tor_sums.specs.Fault.{byte_fault, first_of, part_fault, unit_fault}
use Rattle.tor_sums.specs.declared.errors.EngineError.{EngineError}
use Rattle.tor_sums.specs.declared.errors.EngineError.TheVariants.{Changed, Missing, Read, Resources, StreamTooLong}
use Rattle.tor_sums.specs.steps.Given.{IsGivenRead}
use Rattle.tor_sums.proofs.FirstOf.{neither, or_none}
use Rattle.tor_engine.specs.PieceFault.{piece_fault, pieces_fault}
use Rattle.tor_engine.specs.PieceHashes.{hash_if_there}
use Rattle.tor_engine.specs.Readable.{IsNoReadFault, error_of_fault, hash_if_readable, piece_faults}
use Rattle.tor_engine.specs.Readable.{read_faults}
use Rattle.tor_engine.specs.declared.pieces.read_fault.ReadFault.{ReadFault}

pub nil_both : {A : Type 0} (xs ys : List A) → xs ++ ys ≡ [] → (xs ≡ []) × (ys ≡ [])
nil_both [] ys none = (refl, none)
nil_both (x ∷ xs) ys none = cc

pub both_ok : {T E : Type 0} (result : Result T E) (P : Type 0) (Q : T → Type 0) → OnOk result P → IfOk result Q
    → IfOk result (λ one. P × Q one)
both_ok (Ok one) P Q first second = (first, second)
both_ok (Err error) P Q first second = tt

pub both_err : {T E : Type 0} (result : Result T E) (P Q : E → Type 0) → IfErr result P → IfErr result Q
    → IfErr result (λ error. P error × Q error)
both_err (Ok one) P Q first second = tt
both_err (Err error) P Q first second = (first, second)

-- what is answered of reads alone, and is none of their faults
pub no_read : {F : Type 0} (answers : Answers F) (lengths : List ℕ) (error : EngineError F)
    → IsGivenRead answers lengths error → read_faults (Some error) ≡ [] → IsNoReadFault error
no_read answers lengths (Read file start fault) given none = cc
no_read answers lengths (Changed file) given none = tt
no_read answers lengths (Missing file) given none = absurd given.0
no_read answers lengths Resources given none = tt
no_read answers lengths (StreamTooLong file) given none = absurd given

pub none_held : {A : Type 0} (xs : List A) → length xs ≡ 0 → xs ≡ []
none_held [] none = refl
none_held (x ∷ xs) none = absurd (omega (arith, none))

pub flat_one : {X A : Type 0} (f : X → List A) (xs : List X) (x : X)
    → flat_map f xs ++ f x ≡ flat_map f (xs ++ x ∷ [])
flat_one f xs x =
    ap (λ ys. flat_map f xs ++ ys) (sym (append-nil (f x))) ∙ sym (flat_map-append f xs (x ∷ []))

pub flat_range : {A : Type 0} (f : ℕ → List A) (a n : ℕ)
    → flat_map f (range_with_len a (suc n)) ≡ flat_map f (range_with_len a n) ++ f (a + n)
flat_range f a zero = append-nil (f a) ∙ ap f (let e : a ≡ a + 0 = omega arith in e)
flat_range f a (suc n) =
    ap (λ xs. f a ++ xs) (flat_range f (a + 1) n)
    ∙ sym (append_assoc (f a) (flat_map f (range_with_len (a + 1) n)) (f (a + 1 + n)))
    ∙ ap (λ k. (f a ++ flat_map f (range_with_len (a + 1) n)) ++ f k) (let e : a + 1 + n ≡ a + suc n = omega arith in e)

-- what each of a list has, and of one more
pub flat_more : {X A : Type 0} (f : X → List A) (xs : List X) (i : ℕ) (d : X) → i < length xs
    → flat_map f (take i xs) ++ f (get_or xs i d) ≡ flat_map f (take (i + 1) xs)
flat_more f xs i d less =
    ap (λ ys. flat_map f (take i xs) ++ ys) (sym (append-nil (f (get_or xs i d))))
    ∙ sym (flat_map-append f (take i xs) (get_or xs i d ∷ []))
    ∙ ap (flat_map f) (sym (take_more xs i d less))

-- ---- the faults of parts

-- it is a fault of a read, if it is one
abbrev pub IsRead : {F : Type 0} → Option (EngineError F) → Type 0
IsRead None = Unit {0}
IsRead (Some (Read file start fault)) = Unit {0}
IsRead (Some _) = ⊥

first_is_read : {F X : Type 0} (found : X → Option (EngineError F)) → ((x : X) → IsRead (found x)) → (xs : List X)
    → IsRead (first_of found xs)
unfolding first_of
first_is_read {F = F} found each [] = tt
first_is_read {F = F} found each (x ∷ xs) = either (found x) (first_of found xs) (each x) (first_is_read found each xs)
  where
    either : (fault rest : Option (EngineError F)) → IsRead fault → IsRead rest → IsRead (option_or fault rest)
    either None rest one other = other
    either (Some error) rest one other = one

module _ {F : Type 0} (facts : SourceFacts F) where
  byte_is_read : (file offset : ℕ) → IsRead (byte_fault facts file offset)
  byte_is_read file offset = by_fault (facts.byte_fault file offset)
    where
      by_fault : (fault : Option F) → IsRead (option_map (λ x. Read file (Some offset) x) fault)
      by_fault None = tt
      by_fault (Some x) = tt

  part_is_read : (part : Part) → IsRead (part_fault facts part)
  part_is_read part =
      first_is_read (byte_fault facts part.file) (byte_is_read part.file) (range_with_len part.start part.length)

  pub listed_none : (parts : List Part) → first_of (part_fault facts) parts ≡ None
      → flat_map (λ part. read_faults (part_fault facts part)) parts ≡ []
  unfolding first_of
  listed_none [] none = refl
  listed_none (part ∷ parts) none =
      let both = neither (part_fault facts part) (first_of (part_fault facts) parts) none in
      ap₂ (λ xs ys. xs ++ ys) (ap read_faults both.0) (listed_none parts both.1)

  none_is : (fault : Option (EngineError F)) → IsRead fault → read_faults fault ≡ [] → fault ≡ None
  none_is None is none = refl
  none_is (Some (Read file start fault)) is none = cc
  none_is (Some (Changed file)) is none = absurd is
  none_is (Some (Missing file)) is none = absurd is
  none_is (Some Resources) is none = absurd is
  none_is (Some (StreamTooLong file)) is none = absurd is

  pub none_listed : (parts : List Part) → flat_map (λ part. read_faults (part_fault facts part)) parts ≡ []
      → first_of (part_fault facts) parts ≡ None
  unfolding first_of
  none_listed [] none = refl
  none_listed (part ∷ parts) none =
      let both = nil_both (read_faults (part_fault facts part))
      (flat_map (λ p. read_faults (part_fault facts p)) parts) none in
      or_none (part_fault facts part) (first_of (part_fault facts) parts)
      (none_is (part_fault facts part) (part_is_read part) both.0)
      ∙ none_listed parts both.1

  -- no other error is the first
  pub no_other : (fault : Option (EngineError F)) (error : EngineError F) → IsRead fault → fault ≡ Some error
      → read_faults (Some error) ≡ [] → ⊥
  no_other fault error is same none =
      let never = sym same ∙ none_is fault is (ap read_faults same ∙ none) in
      cc

  only : (fault : Option (EngineError F)) (error : EngineError F) → option_or fault None ≡ Some error
      → fault ≡ Some error
  only None error is = cc
  only (Some x) error is = is

  -- of one part it is the first
  pub one_part : (parts : List Part) (first : ReadFault F) → length parts ≤ 1
      → first_of (part_fault facts) parts ≡ Some (error_of_fault first)
      → first ∷ [] ≡ flat_map (λ part. read_faults (part_fault facts part)) parts
  unfolding first_of
  one_part [] first few is = cc
  one_part (part ∷ []) first few is =
      ap (λ fault. read_faults fault ++ []) (sym (only (part_fault facts part) (error_of_fault first) is))
  one_part (part ∷ other ∷ parts) first few is = absurd (omega (arith, few))

  -- ---- the faults of a piece

  module _ (contents : List (List ℕ)) where
    pub piece_is_read : (piece : PlanUnit) → IsRead (piece_fault facts contents piece)
    piece_is_read piece = by_there (is_there contents piece)
      where
        by_there : (b : Bool) → IsRead (cond b (unit_fault facts piece) None)
        by_there true = first_is_read (part_fault facts) part_is_read piece.parts
        by_there false = tt

    pub pieces_are_read : (pieces : List PlanUnit) → IsRead (pieces_fault facts contents pieces)
    pieces_are_read pieces = first_is_read (piece_fault facts contents) piece_is_read pieces

    -- of a piece that is there
    pub piece_there : (piece : PlanUnit) (error : EngineError F) → piece_fault facts contents piece ≡ Some error
        → (is_there contents piece ≡ true) × (unit_fault facts piece ≡ Some error)
    piece_there piece error = by_there (is_there contents piece)
      where
        by_there : (b : Bool) → cond b (unit_fault facts piece) None ≡ Some error
            → (b ≡ true) × (unit_fault facts piece ≡ Some error)
        by_there true is = (refl, is)
        by_there false is = cc

    pub no_piece_faults : (piece : PlanUnit) → piece_fault facts contents piece ≡ None
        → piece_faults facts contents piece ≡ []
    no_piece_faults piece = by_there (is_there contents piece)
      where
        by_there : (b : Bool) → cond b (unit_fault facts piece) None ≡ None
            → cond b (flat_map (λ part. read_faults (part_fault facts part)) piece.parts) [] ≡ []
        by_there true none = listed_none piece.parts none
        by_there false none = refl

    pub no_faults : (pieces : List PlanUnit) → pieces_fault facts contents pieces ≡ None
        → [] ≡ flat_map (piece_faults facts contents) pieces
    unfolding first_of
    no_faults [] none = refl
    no_faults (piece ∷ pieces) none =
        let both = neither (piece_fault facts contents piece) (pieces_fault facts contents pieces) none in
        ap₂ (λ xs ys. xs ++ ys) (sym (no_piece_faults piece both.0)) (no_faults pieces both.1)

    pub readable_there : (plan : PlanFacts) (piece : PlanUnit) → piece_fault facts contents piece ≡ None
        → hash_if_there plan contents piece ≡ hash_if_readable facts plan contents piece
    readable_there plan piece none =
        ap (λ fault. cond (is_none fault) (hash_if_there plan contents piece) None) (sym none)

    pub all_readable : (plan : PlanFacts) (pieces : List PlanUnit) → pieces_fault facts contents pieces ≡ None
        → map (hash_if_there plan contents) pieces ≡ map (hash_if_readable facts plan contents) pieces
    unfolding first_of
    all_readable plan [] none = refl
    all_readable plan (piece ∷ pieces) none =
        let both = neither (piece_fault facts contents piece) (pieces_fault facts contents pieces) none in
        ap₂ (λ x xs. x ∷ xs) (readable_there plan piece both.0) (all_readable plan pieces both.1)
