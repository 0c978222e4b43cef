-- Lengths as far as they can be asked, and a source as it is seen by them.
use Rattle.std.proofs.Common.{◌≡◌, ◌⊎◌, inl, inr, ◌<◌, ◌+◌, ℕ, cond, List, [], ◌∷◌, ◌++◌, length, get_or}
use Rattle.std.proofs.Common.{Option, None, Some}
use Rattle.std.proofs.Common.{Ok, Err, is_some, option_map, unwrap_or, refl, ap, sym, subst, ◌∙◌}
use Rattle.std.proofs.Common.{zero-add, arith}
use Rattle.std.specs.Prelude.{IsSome}
use Rattle.std.specs.List.{AllByRecursion}
use Rattle.std.proofs.Math.ListN.{get_or-map}
use Rattle.std.proofs.lemmas.List.{length-map}
use Rattle.std.proofs.lemmas.List.FromFn.{get_or-map-range_with_len, map-range_with_len_more}
use Rattle.tor_merkle.proofs.Levels.{range_same}
use Rattle.tor_source.specs.Answers.{Answers}
use Rattle.tor_source.specs.Source.{SourceFacts, told_length, unless_fault}
use Rattle.tor_sums.specs.Contents.{contents_in}
use Rattle.tor_sums.specs.Fault.{first_of}
use Rattle.tor_sums.specs.Given.{IsGivenPieces}
use Rattle.tor_sums.specs.declared.errors.EngineError.{EngineError}
use Rattle.tor_sums.specs.declared.errors.EngineError.TheVariants.{Changed, Missing, Read, Resources, StreamTooLong}
use Rattle.tor_sums.specs.steps.Given.{lengths_of_sizes}
use Rattle.tor_engine.specs.Readable.{IsSeenLength, read_faults, seen, seen_contents, seen_lengths}
use Rattle.tor_engine.specs.steps.Pieces.{AreTold}
use Rattle.tor_engine.specs.steps.Readable.{IsLeft, seen_by, seen_may_be}
use Rattle.tor_engine.proofs.AllPieces.{are_told}

module _ {F : Type 0} where
  pub seen_told : (file : ℕ) (fault : Option F) (content : Option (List ℕ)) (size : Option ℕ)
      → unless_fault fault (option_map length content) ≡ Ok size
      → (size ≡ option_map length (cond (is_some fault) None content))
      × ([] ≡ read_faults (option_map (λ x. Read file None x) fault))
  seen_told file None content size is = let same : option_map length content ≡ size = cc in (sym same, refl)
  seen_told file (Some x) content size is = cc

  pub seen_failed : (file : ℕ) (fault : Option F) (content : Option (List ℕ)) (given : F)
      → unless_fault fault (option_map length content) ≡ Err given
      → (None ≡ option_map length (cond (is_some fault) None content))
      × (record { file = file; start = None; fault = given } ∷ []
      ≡ read_faults (option_map (λ x. Read file None x) fault))
  seen_failed file None content given is = cc
  seen_failed file (Some x) content given is =
      let same : x ≡ given = cc in
      (refl, ap (λ y. record { file = file; start = None; fault = y } ∷ []) (sym same))

  again : (fault : Option F) (content : Option (List ℕ)) (size : Option ℕ)
      → size ≡ option_map length (cond (is_some fault) None content) → IsSome size
      → unless_fault fault (option_map length content) ≡ Ok size
  again None content size is some = ap Ok (sym is)
  again (Some x) content None is some = cc
  again (Some x) content (Some n) is some = cc

module _ {F : Type 0} (facts : SourceFacts F) where
  -- one file more
  pub lengths_more : (file : ℕ)
      → seen_lengths facts (file + 1) ≡ seen_lengths facts file ++ option_map length ((seen facts).contents file) ∷ []
  lengths_more file =
      map-range_with_len_more (λ k. option_map length ((seen facts).contents k)) 0 file file (zero-add file)

  -- what is told again is what was told
  pub told_again : (told : List (Option ℕ)) (file : ℕ) → file < length told
      → told ≡ seen_lengths facts (length told) → IsSome (get_or told file None)
      → told_length facts file ≡ Ok (get_or told file None)
  told_again told file less are some =
      again (facts.length_fault file) (facts.contents file) (get_or told file None)
      (ap (λ xs. get_or xs file None) are
      ∙ get_or-map-range_with_len (λ k. option_map length ((seen facts).contents k)) 0 (length told) file file None less
      (zero-add file))
      some

  -- seen by the lengths that can be asked it is as it is seen
  module _ (told : List (Option ℕ)) (count : ℕ) (are : told ≡ seen_lengths facts count) where
    content_by : (content : Option (List ℕ)) (fault : Option F)
        → cond (is_some (option_map length (cond (is_some fault) None content))) content None
        ≡ cond (is_some fault) None content
    content_by None None = refl
    content_by None (Some x) = refl
    content_by (Some bytes) None = refl
    content_by (Some bytes) (Some x) = refl

    pub same_contents : contents_in (seen_by told facts) count ≡ seen_contents facts count
    same_contents =
        range_same (λ file. unwrap_or ((seen_by told facts).contents file) [])
        (λ file. unwrap_or ((seen facts).contents file) []) count
        (λ file less.
        let size = ap (λ xs. get_or xs file None) are
        ∙ get_or-map-range_with_len (λ k. option_map length ((seen facts).contents k)) 0 count file file None less
        (zero-add file) in
        ap (λ content. unwrap_or content [])
        (ap (λ (o : Option ℕ). cond (is_some o) (facts.contents file) None) size
        ∙ content_by (facts.contents file) (facts.length_fault file)))

    pub seen_are_told : AreTold told (contents_in (seen_by told facts) count)
    seen_are_told =
        subst (λ (contents : List (List ℕ)). AreTold told contents) (sym same_contents)
        (are_told (seen facts) told count are)

-- ---- of any source

pub all_more : {X : Type 0} (P Q : X → Type 0) → ((x : X) → P x → Q x) → (xs : List X) → AllByRecursion P xs
    → AllByRecursion Q xs
all_more P Q more [] all = tt
all_more P Q more (x ∷ xs) all = (more x all.0, all_more P Q more xs all.1)

pub no_first : {X A : Type 0} (xs : List X) → first_of {B = A} (λ _. None) xs ≡ None
unfolding first_of
no_first [] = refl
no_first (x ∷ xs) = no_first xs

module _ {F : Type 0} (answers : Answers F) (told : List (Option ℕ)) (count : ℕ) (long : length told ≡ count)
    (seen : (file : ℕ) → file < length told → IsSeenLength answers file (get_or told file None)) where
  has_told : (file : ℕ) → file < length told → (size : Option ℕ) → get_or told file None ≡ size → IsSome size
      → answers.told file size
  has_told file less size is some = elim (seen file less) [
    | inl one ↦ subst (λ (o : Option ℕ). answers.told file o) is one
    | inr lost ↦
        let never : size ≡ None = sym is ∙ lost.0 in
        let no = subst (λ (o : Option ℕ). IsSome o) never some in cc
  ]

  named_in : (file : ℕ) → file < length (lengths_of_sizes told) → file < length told
  named_in file less = omega (arith, less, length-map told (λ size. unwrap_or size 0))

  some_there : (size : Option ℕ) (start : ℕ) → start < unwrap_or size 0 → IsSome size
  some_there None start less = absurd (omega (arith, less))
  some_there (Some n) start less = refl

  pub seen_given : (error : EngineError F) → seen_may_be told answers error → IsGivenPieces answers count error
  seen_given (Read file None fault) given = absurd given.0
  seen_given (Read file (Some start) fault) given =
      (given.0.0, omega (arith, named_in file given.1, long))
  seen_given (Changed file) given =
      let named = named_in file given.1 in
      let size = get_or told file None in
      let at : get_or (lengths_of_sizes told) file 0 ≡ unwrap_or size 0 =
      get_or-map (λ size. unwrap_or size 0) told file None in
      let start = given.0.0 in
      let less : start < unwrap_or size 0 = subst (λ (n : ℕ). start < n) at given.0.2 in
      let some = some_there size start less in
      elim given.0.1 [
        | inl ended ↦ (
          (size, has_told file named size refl some, inr (start, ended, less)),
          omega (arith, named, long),
        )
        | inr none ↦ let no = subst (λ (o : Option ℕ). IsSome o) none some in cc
      ]
  seen_given (Missing file) given = absurd given.0
  seen_given Resources given = tt
  seen_given (StreamTooLong file) given = absurd given

  pub left_given : (error : EngineError F) → (error ≡ Resources) ⊎ IsLeft answers told error
      → IsGivenPieces answers count error
  left_given error given = elim given [
    | inl memory ↦ subst (λ (e : EngineError F). IsGivenPieces answers count e) (sym memory) tt
    | inr left ↦
        let file = left.0 in
        let size = get_or told file None in
        subst (λ (e : EngineError F). IsGivenPieces answers count e) (sym left.2) (
          (size, has_told file left.3 size refl left.4, inl (left.1, left.5, left.6)),
          omega (arith, left.3, long),
        )
  ]
