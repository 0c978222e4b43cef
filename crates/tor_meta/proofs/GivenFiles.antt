-- What a source answers of a file in the list's order it answers of the file that was handed in.
use Rattle.std.proofs.Common.{◌≡◌, ◌⊎◌, inl, inr, ℕ, ◌<◌, List as ListOf, get_or, length, Option, None, Some, subst}
use Rattle.std.specs.List.{All}
use Rattle.std.proofs.lemmas.List.{get_or_default}
use Rattle.tor_source.specs.Answers.{Answers}
use Rattle.tor_sums.specs.Given.{Departs, HasToldLengths, IsGivenAsked, IsGivenNotMissing}
use Rattle.tor_sums.specs.declared.errors.EngineError.{EngineError}
use Rattle.tor_sums.specs.declared.errors.EngineError.TheVariants.{Read, Changed, Missing, Resources, StreamTooLong}
use Rattle.tor_meta.specs.Make.{IsGivenTo, IsToldChanged}
use Rattle.tor_meta.specs.MakeError.{of_contents_error, of_engine_error}
use Rattle.tor_meta.specs.ListRefusal.{of_list_error}
use Rattle.tor_meta.specs.steps.IndexedFiles.{answers_at, renumbered}
use Rattle.tor_tree.specs.FileList.{lengths_fault}
use Rattle.tor_tree.specs.declared.lists.ListError.{ListError}
use Rattle.tor_tree.specs.declared.lists.ListError.TheVariants as fault

module _ {F : Type 0} (answers : Answers F) (count : ℕ) where
  -- where lengths are asked
  pub given_of_asked : (error : EngineError F) → IsGivenAsked answers count error
      → IsGivenTo answers count (of_engine_error error)
  given_of_asked (Read file None fault) given = given
  given_of_asked (Read file (Some start) fault) none = absurd none.0
  given_of_asked (Changed file) none = absurd none.0
  given_of_asked (Missing file) given = given
  given_of_asked Resources none = none
  given_of_asked (StreamTooLong file) none = none

  -- where those that were told are no list's
  pub given_of_lengths : (lengths : ListOf ℕ) (error : ListError) → length lengths ≡ count → HasToldLengths answers lengths
      → (lengths_fault lengths ≡ Some error) ⊎ (error ≡ fault.Memory)
      → IsGivenTo answers count (of_contents_error (of_list_error error))
  given_of_lengths lengths fault.NoFiles same are is = tt
  given_of_lengths lengths fault.Duplicate same are is = tt
  given_of_lengths lengths fault.FileAndFolder same are is = tt
  given_of_lengths lengths fault.TooLarge same are (inl is) = (lengths, same, are, is)
  given_of_lengths lengths fault.TooLarge same are (inr is) = cc
  given_of_lengths lengths fault.Memory same are is = tt

  -- where the bytes of files in another order are read, of which these lengths were told
  module _ (indices lengths : ListOf ℕ) (within : All (λ index. index < count) indices)
      (one_each : length lengths ≡ length indices)
      (first : (file : ℕ) → file < length indices
      → answers.told (get_or indices file 0) (Some (get_or lengths file 0))) where
    handed : (P : ℕ → Type 0) (file : ℕ) → file < length indices → P (get_or indices file 0)
        → P (get_or indices file file)
    handed P file there holds = subst P (get_or_default indices file 0 file there) holds

    departs : (file : ℕ) (size : Option ℕ) → file < length indices → Departs (answers_at indices answers) file size
        → Departs answers (get_or indices file 0) size
    departs file size there (inl (other, was, differs)) = inl (other, was there, differs)
    departs file size there (inr (start, over, before)) = inr (start, over there, before)

    pub given_of_indexed : (error : EngineError F) → IsGivenNotMissing (answers_at indices answers) lengths error
        → IsGivenTo answers count (of_engine_error (renumbered indices error))
    given_of_indexed (Read file start fault) ((there, given), less) = (
      handed (λ (k : ℕ). answers.gave k start fault) file there given,
      within file file there,
    )
    given_of_indexed (Changed file) (departed, less) =
        let there = subst (λ (n : ℕ). file < n) one_each less in (
          handed (IsToldChanged answers) file there
              (get_or lengths file 0, first file there, departs file (Some (get_or lengths file 0)) there departed),
          within file file there,
        )
    given_of_indexed (Missing file) none = absurd none.0
    given_of_indexed Resources none = none
    given_of_indexed (StreamTooLong file) none = none
