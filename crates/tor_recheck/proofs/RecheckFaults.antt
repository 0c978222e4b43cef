-- The first fault of the hashing is that of the recheck.
use Rattle.tor_recheck.proofs.Names.{◌≡◌, ℕ, [], None, option_map, ap, ap₂, sym, ◌∙◌, inl, inr, option_or}
use Rattle.tor_recheck.proofs.Names.{contents_in, IsGivenPieces, first_asked_fault, first_piece_fault, pieces_fault}
use Rattle.tor_recheck.proofs.Names.{EngineError, Read, Changed, Missing, Resources, StreamTooLong, PlanFacts}
use Rattle.tor_recheck.proofs.Names.{plan_of_entries, IsCut, entries_to_cut, IsFault, IsGiven, first_fault}
use Rattle.tor_recheck.proofs.Names.{of_engine_error, Answers, SourceFacts, View}
use Rattle.tor_engine.specs.Readable as readable
use Rattle.tor_recheck.specs.Readable.{IsNoReadFault}
use Rattle.tor_recheck.proofs.Rechecked.{count_is, pieces_are}
use Rattle.tor_sums.specs.Fault as engine

module _ {F : Type 0} (facts : SourceFacts F) (view : View) (cut : IsCut view) where
  -- the units that a recheck takes
  abbrev plan : PlanFacts
  plan = plan_of_entries view.kind view.piece_length 16 (entries_to_cut view)

  same_first : option_map of_engine_error (first_piece_fault facts plan)
      ≡ first_fault facts view
  same_first =
      ap₂ (λ count pieces. option_map of_engine_error (option_or (first_asked_fault facts count)
      (pieces_fault facts (contents_in facts count) pieces))) (count_is view [] cut) (pieces_are view [] cut)

  pub no_fault : first_piece_fault facts plan ≡ None
      → first_fault facts view ≡ None
  no_fault none = sym same_first ∙ ap (option_map of_engine_error) none

  pub same_fault : (error : EngineError F)
      → engine.IsFault (first_piece_fault facts plan) error
      → IsFault (first_fault facts view) (of_engine_error error)
  same_fault error (inl memory) = inl (ap of_engine_error memory)
  same_fault error (inr first) = inr (sym same_first ∙ ap (option_map of_engine_error) first)

module _ {F : Type 0} (answers : Answers F) (count : ℕ) where
  pub given_of : (error : EngineError F) → IsGivenPieces answers count error
      → IsGiven answers count (of_engine_error error)
  given_of (Read file start fault) given = given
  given_of (Changed file) given = given
  given_of (Missing file) given = absurd given.0
  given_of Resources given = given
  given_of (StreamTooLong file) given = absurd given

-- no fault of a read is named as one
pub no_read_of : {F : Type 0} (error : EngineError F) → readable.IsNoReadFault error
    → IsNoReadFault (of_engine_error error)
no_read_of (Read file start fault) is = is
no_read_of (Changed file) is = is
no_read_of (Missing file) is = tt
no_read_of Resources is = is
no_read_of (StreamTooLong file) is = tt
