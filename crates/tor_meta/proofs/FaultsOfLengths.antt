-- A plan has no fault of a byte, and of no file that changed.
use Rattle.std.proofs.Common.{◌≡◌, ◌⊎◌, ℕ, List as ListOf, None, Some}
use Rattle.tor_source.specs.Answers.{Answers}
use Rattle.tor_sums.specs.Given.{IsGivenAsked}
use Rattle.tor_sums.specs.declared.errors.EngineError.{EngineError}
use Rattle.tor_sums.specs.declared.errors.EngineError.TheVariants.{Read, Changed, Missing, Resources, StreamTooLong}
use Rattle.tor_meta.specs.ListRefusal.{of_list_error}
use Rattle.tor_meta.specs.Make.{IsGivenTo, make_refusal}
use Rattle.tor_meta.specs.MakeError.{of_contents_error, of_engine_error, out_of_resources}
use Rattle.tor_meta.specs.Planned.{IsFaultOfLengths}
use Rattle.tor_meta.specs.declared.make_error.MakeError.{MakeError}
use Rattle.tor_meta.specs.declared.make_error.MakeError.TheVariants as makes
use Rattle.tor_meta.specs.declared.order.Order.{Order}
use Rattle.tor_meta.proofs.Refused.{given_or_not}
use Rattle.tor_tree.specs.declared.lists.ListError.{ListError}
use Rattle.tor_tree.specs.declared.lists.ListError.TheVariants as fault

-- if those lengths that were told are no list's
pub listed_of_lengths : (F : Type 0) (error : ListError)
    → IsFaultOfLengths {F = F} (of_contents_error (of_list_error error))
listed_of_lengths F fault.NoFiles = tt
listed_of_lengths F fault.Duplicate = tt
listed_of_lengths F fault.FileAndFolder = tt
listed_of_lengths F fault.TooLarge = tt
listed_of_lengths F fault.Memory = tt

module _ {F : Type 0} where
  -- if lengths are asked
  pub asked_of_lengths : (answers : Answers F) (count : ℕ) (error : EngineError F) → IsGivenAsked answers count error
      → IsFaultOfLengths (of_engine_error error)
  asked_of_lengths answers count (Read file None fault) given = tt
  asked_of_lengths answers count (Read file (Some start) fault) none = absurd none.0
  asked_of_lengths answers count (Changed file) none = absurd none.0
  asked_of_lengths answers count (Missing file) given = tt
  asked_of_lengths answers count Resources none = tt
  asked_of_lengths answers count (StreamTooLong file) none = absurd none

  silent : Answers F
  silent = record { gave = λ _ _ _. ⊥; told = λ _ _. ⊥; ended = λ _ _. ⊥ }

  of_silent : (count : ℕ) (error : MakeError F) → IsGivenTo silent count error → IsFaultOfLengths error
  unfolding silent
  of_silent count (makes.Hashing (Read file None fault)) given = tt
  of_silent count (makes.Hashing (Read file (Some start) fault)) given = absurd given.0
  of_silent count (makes.Hashing (Changed file)) given = absurd given.0.1
  of_silent count (makes.Hashing (Missing file)) given = tt
  of_silent count (makes.Hashing Resources) given = tt
  of_silent count (makes.Hashing (StreamTooLong file)) given = absurd given
  of_silent count makes.PieceLength given = tt
  of_silent count makes.Workers given = tt
  of_silent count makes.Span given = tt
  of_silent count makes.Path given = tt
  of_silent count makes.SingleShape given = tt
  of_silent count makes.NotSorted given = tt
  of_silent count (makes.List error) given = tt
  of_silent count makes.ReservedPad given = tt

  -- if the order or the paths are refused
  pub refused_of_lengths : (order : Order) (paths : ListOf (ListOf (ListOf ℕ))) (error : MakeError F)
      → (error ≡ out_of_resources) ⊎ (make_refusal order paths ≡ Some error) → IsFaultOfLengths error
  refused_of_lengths order paths error refused =
      of_silent 0 error (given_or_not silent 0 order paths error refused)
