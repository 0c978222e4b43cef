-- What a source of some files alone answered, its source gave or told.
use Rattle.tor_recheck.proofs.Names.{◌≡◌, ◌<◌, ℕ, Bool, true, false, List, Option, arith, sym, ap, ◌∙◌}
use Rattle.tor_recheck.proofs.Names.{inl, inr, cases_Bool, unwrap_or, IsGivenPieces, EngineError, Answers}
use Rattle.tor_recheck.proofs.Names.{Read, Changed, Missing, Resources, StreamTooLong, View, of_engine_error}
use Rattle.tor_recheck.specs.Lots.{IsFileOfLot, IsOfLot}
use Rattle.tor_recheck.specs.steps.Lots.{is_own, own_answers}
use Rattle.tor_sums.specs.Given.{Departs}

module _ {F : Type 0} (own : List Bool) (answers : Answers F) where
  -- another file is told to be missing, and so keeps to it
  departed : (file : ℕ) (size : Option ℕ) → (own_answers own answers).told file size
      → Departs (own_answers own answers) file size → is_own own file ≡ true
  departed file size told departs = elim (cases_Bool (is_own own file)) [
    | inl is ↦ is
    | inr other ↦ absurd (never other departs)
  ] where
    never : is_own own file ≡ false → Departs (own_answers own answers) file size → ⊥
    never other (inl (more, is, differs)) = differs (is.1 other ∙ sym (told.1 other))
    never other (inr (start, ended, lt)) =
        let none : unwrap_or size 0 ≡ 0 = ap (λ s. unwrap_or s 0) (told.1 other) in omega (arith, lt, none)

  departs_too : (file : ℕ) (size : Option ℕ) → is_own own file ≡ true → Departs (own_answers own answers) file size
      → Departs answers file size
  departs_too file size is (inl (other, told, differs)) = inl (other, told.0 is, differs)
  departs_too file size is (inr (start, ended, lt)) = inr (start, ended is, lt)

  pub given_own : (count : ℕ) (error : EngineError F) → IsGivenPieces (own_answers own answers) count error
      → IsGivenPieces answers count error
  given_own count (Read file start fault) given = (given.0.1, given.1)
  given_own count (Changed file) given =
      let changed = given.0 in
      let is = departed file changed.0 changed.1 changed.2 in
      ((changed.0, changed.1.0 is, departs_too file changed.0 is changed.2), given.1)
  given_own count (Missing file) given = absurd given.0
  given_own count Resources given = given
  given_own count (StreamTooLong file) given = absurd given

  -- what it names is its own
  pub of_own : (view : View) (lots lot count : ℕ)
      → ((file : ℕ) → file < count → is_own own file ≡ true → IsFileOfLot view lots lot file)
      → (error : EngineError F) → IsGivenPieces (own_answers own answers) count error
      → IsOfLot view lots lot (of_engine_error error)
  of_own view lots lot count are (Read file start fault) given = are file given.1 given.0.0
  of_own view lots lot count are (Changed file) given =
      are file given.1 (departed file given.0.0 given.0.1 given.0.2)
  of_own view lots lot count are (Missing file) given = absurd given.0
  of_own view lots lot count are Resources given = tt
  of_own view lots lot count are (StreamTooLong file) given = absurd given
