-- The files of units, and errors that name no other.
use Rattle.std.proofs.Common.{◌≡◌, ◌≢◌, ◌∙◌, ◌<◌, ℕ, zero, suc, Bool, true, false, List, [], ◌∷◌, None, Some}
use Rattle.std.proofs.Common.{arith, eqb, eqb-true, get_or, length, map, refl, set, sym, true≢false}
use Rattle.std.proofs.lemmas.Bool.{eq-eqb}
use Rattle.std.proofs.lemmas.List.{get_or-set_other, get_or-set_same, length-set}
use Rattle.std.proofs.lemmas.List.Elements.{Contains-append_left, Contains-append_right}
use Rattle.std.proofs.lemmas.List.Folds.{list_any_at}
use Rattle.std.proofs.lemmas.Map.Views.{Contains-from_any}
use Rattle.std.specs.List.{All, Contains, flat_map, list_any}
use Rattle.tor_engine.specs.Rows.{AreInFiles}
use Rattle.tor_parts.specs.OwnFiles.{IsOfFiles, files_of}
use Rattle.tor_plan.specs.WithinEntries.{IsInFile}
use Rattle.tor_plan.specs.declared.units.Part.{Part}
use Rattle.tor_plan.specs.declared.units.PlanUnit.{PlanUnit}
use Rattle.tor_source.specs.Answers.{Answers}
use Rattle.tor_sums.specs.Given.{IsGivenRead}
use Rattle.tor_sums.specs.declared.errors.EngineError.{EngineError}
use Rattle.tor_sums.specs.declared.errors.EngineError.TheVariants.{Changed, Missing, Read, Resources, StreamTooLong}

module _ {X : Type 0} where
  in_map : (h : X → ℕ) (xs : List X) (i : ℕ) (d : X) → i < length xs → Contains (map h xs) (h (get_or xs i d))
  in_map h [] i d there = absurd (omega (arith, there))
  in_map h (x ∷ xs) zero d there = (0, omega arith, refl)
  in_map h (x ∷ xs) (suc i) d there =
      Contains-append_right (h x ∷ []) (map h xs) (h (get_or xs i d)) (in_map h xs i d (omega (arith, there)))

  in_flat_map : (g : X → List ℕ) (xs : List X) (i : ℕ) (d : X) (n : ℕ) → i < length xs → Contains (g (get_or xs i d)) n
      → Contains (flat_map g xs) n
  in_flat_map g [] i d n there has = absurd (omega (arith, there))
  in_flat_map g (x ∷ xs) zero d n there has = Contains-append_left (g x) (flat_map g xs) n has
  in_flat_map g (x ∷ xs) (suc i) d n there has =
      Contains-append_right (g x) (flat_map g xs) n (in_flat_map g xs i d n (omega (arith, there)) has)

-- the file of each part is one of the files of units
pub files_are_own : (units : List PlanUnit)
    → All (λ unit. All (λ part. Contains (files_of units) part.file) unit.parts) units
files_are_own units k unit there i part within =
    in_flat_map (λ (unit : PlanUnit). map (λ part. part.file) unit.parts) units k unit
    (get_or (get_or units k unit).parts i part).file there
    (in_map (λ (part : Part). part.file) (get_or units k unit).parts i part within)

module _ (lengths : List ℕ) (units : List PlanUnit) (are : AreInFiles lengths units) (file : ℕ)
    (other : list_any (eqb file) (files_of units) ≡ false) where
  -- no unit has a part of the file, so units are in files of these lengths too
  others : List ℕ
  others = set lengths file 0

  is_other : (n : ℕ) → Contains (files_of units) n → n ≢ file
  is_other n (k, there, is) same =
      true≢false (sym (list_any_at (eqb file) (files_of units) k n there (eq-eqb file (get_or (files_of units) k n)
      (sym same ∙ sym is))) ∙ other)

  other_part : (part : Part) → IsInFile lengths part → Contains (files_of units) part.file → IsInFile others part
  unfolding others
  other_part part is has = record {
    named = rw (length-set lengths file 0) is.named;
    some = is.some;
    within = rw (get_or-set_other lengths file part.file 0 0 (is_other part.file has)) is.within;
  }

  are_others : AreInFiles others units
  are_others k unit there i part within =
      other_part (get_or (get_or units k unit).parts i part) (are k unit there i part within)
      (files_are_own units k unit there i part within)

  none_read : (start : ℕ) → file < length others → start < get_or others file 0 → ⊥
  unfolding others
  none_read start named less =
      let here : file < length lengths = rw (length-set lengths file 0) at named in
      let none = get_or-set_same lengths file 0 0 here in
      let before : start < 0 = rw none at less in omega (arith, before)

-- what is given whatever lengths the files have, as long as units are in them, is of a file of theirs
module _ {F : Type 0} (answers : Answers F) (lengths : List ℕ) (units : List PlanUnit)
    (are : AreInFiles lengths units) where
  is_own : (file : ℕ) → ((all : List ℕ) → AreInFiles all units
      → (start : ℕ) × (file < length all) × (start < get_or all file 0)) → Contains (files_of units) file
  is_own file given = by_test (list_any (eqb file) (files_of units)) refl
    where
      by_test : (b : Bool) → list_any (eqb file) (files_of units) ≡ b → Contains (files_of units) file
      by_test true is = Contains-from_any eqb-true file (files_of units) is
      by_test false is =
          let (start, named, before) = given (others lengths units are file is) (are_others lengths units are file is) in
          absurd (none_read lengths units are file is start named before)

  pub own_read : (error : EngineError F) → ((all : List ℕ) → AreInFiles all units → IsGivenRead answers all error)
      → IsOfFiles (files_of units) error
  own_read (Read file None fault) given = absurd (given lengths are).0
  own_read (Read file (Some start) fault) given =
      is_own file (λ all in_all. let cause = given all in_all in (start, cause.1, cause.0.1))
  own_read (Changed file) given =
      is_own file (λ all in_all. let cause = given all in_all in (cause.0.0, cause.1, cause.0.2))
  own_read (Missing file) given = absurd (given lengths are).0
  own_read Resources given = tt
  own_read (StreamTooLong file) given = given lengths are
