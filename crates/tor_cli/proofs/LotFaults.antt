-- Which fault of the program a fault of a lot is, and why parts are not joined.
use Rattle.std.proofs.Common.{◌≤◌, ◌≢◌, ◌∙◌, ℕ, List, ap, inl, length, refl, subst, sym}
use Rattle.std.specs.declared.io.Error.{Error}
use Rattle.tor_meta.specs.MakeError.{of_engine_error}
use Rattle.tor_meta.specs.Lots.{plan_of_text}
use Rattle.tor_parts.specs.Dealing.{dealt}
use Rattle.tor_parts.specs.OwnFiles.{IsGivenOwn, IsOfFiles, files_of}
use Rattle.tor_source.specs.Answers.{system_answers}
use Rattle.tor_sums.specs.declared.errors.EngineError.{EngineError}
use Rattle.tor_sums.specs.declared.errors.EngineError.TheVariants as engine
use Rattle.tor_sums.specs.How.{IsHow}
use Rattle.tor_tree.specs.FileList.{lengths_of}
use Rattle.tor_meta.specs.Listing.{IsPlanRefusal}
use Rattle.tor_meta.specs.declared.listing_error.PlanError.{PlanError}
use Rattle.tor_cli.specs.Status.{of_make_error, of_plan_error}
use Rattle.tor_cli.specs.Streams.{IsUntouched, Streams}
use Rattle.tor_source.specs.declared.input.TheConstants.{MAX_INPUT_LENGTH}
use Rattle.tor_cli.specs.declared.lots.lot_words.LotOptions.{LotOptions}
use Rattle.tor_cli.specs.lots.Lots.{IsFaultOfParts, IsJoinFault, IsNoLot, IsNotJoined, OfPlan, StopsJoining, StopsLot}
use Rattle.tor_cli.specs.lots.Lots.{number_of_part, part_text, words_of_parts}
use Rattle.tor_cli.specs.declared.fault.Fault.{Fault}
use Rattle.tor_cli.specs.declared.fault.Fault.TheVariants as faults
use Rattle.tor_cli.specs.declared.lots.join_words.JoinOptions.{JoinOptions}
use Rattle.tor_meta.specs.declared.join_error.JoinError.{JoinError}
use Rattle.tor_meta.specs.declared.join_error.JoinError.TheVariants as joins
use Rattle.tor_meta.specs.declared.listing_error.PlanError.TheVariants as plans

-- a fault of a file is told, and want of memory is the program's own
pub no_lot : (options : LotOptions) (plan : List ℕ) → IsHow options.how → (fault : EngineError Error)
    → OfPlan plan (λ text. IsGivenOwn (system_answers (length text.list.files)) (lengths_of text.list.files) fault
    × IsOfFiles (files_of (dealt options.lot.lots options.lot.number (plan_of_text text).units)) fault)
    → IsNoLot options plan (of_make_error (of_engine_error fault))
no_lot options plan allowed (engine.Read file start why) (text, is, same, accepted, (gave, own)) =
    (allowed, (text, is, same, accepted, (engine.Read file start why, refl, λ none. cc, gave, own)))
no_lot options plan allowed (engine.Changed file) (text, is, same, accepted, (gave, own)) =
    (allowed, (text, is, same, accepted, (engine.Changed file, refl, λ none. cc, gave, own)))
no_lot options plan allowed (engine.Missing file) (text, is, same, accepted, (gave, own)) =
    (allowed, (text, is, same, accepted, (engine.Missing file, refl, λ none. cc, gave, own)))
no_lot options plan allowed (engine.StreamTooLong file) (text, is, same, accepted, (gave, own)) =
    (allowed, (text, is, same, accepted, (engine.StreamTooLong file, refl, λ none. cc, gave, own)))
no_lot options plan allowed engine.Resources given = tt

module _ (options : JoinOptions) (s : Streams) (untouched : IsUntouched s) where
  of_parts : (error : JoinError) → error ≢ joins.Memory → (fault : Fault)
      → IsFaultOfParts (words_of_parts options) error fault → IsNotJoined options error → StopsJoining options s fault
  of_parts error other (faults.Join told part) same not = (
    subst (IsNotJoined options) (sym same.0) not,
    subst (λ (error : JoinError). error ≢ joins.Memory) (sym same.0) other,
    same.1 ∙ ap (λ (error : JoinError). part_text (words_of_parts options) (number_of_part error)) (sym same.0),
    untouched,
  )
  of_parts error other (faults.Usage line) same not = absurd same
  of_parts error other (faults.Name fault) same not = absurd same
  of_parts error other (faults.Scan fault) same not = absurd same
  of_parts error other (faults.Make cause) same not = absurd same
  of_parts error other (faults.Refused refusal) same not = absurd same
  of_parts error other (faults.Piece cause) same not = absurd same
  of_parts error other (faults.Recheck cause) same not = absurd same
  of_parts error other (faults.Plan cause) same not = absurd same
  of_parts error other (faults.NotAsMade good pieces) same not = absurd same
  of_parts error other faults.OutAmongFiles same not = absurd same
  of_parts error other (faults.Argument fault) same not = absurd same
  of_parts error other (faults.Read fault) same not = absurd same
  of_parts error other faults.TooLong same not = absurd same
  of_parts error other (faults.Write written) same not = absurd same
  of_parts error other faults.Resources same not = absurd same

  -- an error of joining is told as it is, and want of memory is the program's own
  pub not_joined : (error : JoinError) (fault : Fault) → IsJoinFault (words_of_parts options) error fault
      → IsNotJoined options error → StopsJoining options s fault
  not_joined (joins.Plan plans.NotAPlan) fault same (plan, within, (texts, each, why)) =
      subst (StopsJoining options s) (sym same) ((plan, within, why), (λ e. cc), untouched)
  not_joined (joins.Plan (plans.Refused refusal)) fault same (plan, within, (texts, each, why)) =
      subst (StopsJoining options s) (sym same) ((plan, within, why), (λ e. cc), untouched)
  not_joined (joins.Plan plans.Memory) fault same not = subst (StopsJoining options s) (sym same) untouched
  not_joined joins.Memory fault same not = subst (StopsJoining options s) (sym same) untouched
  not_joined (joins.NoPart word) fault same not = of_parts (joins.NoPart word) (λ e. cc) fault same not
  not_joined (joins.OtherPlan word) fault same not = of_parts (joins.OtherPlan word) (λ e. cc) fault same not
  not_joined (joins.OtherParts word) fault same not = of_parts (joins.OtherParts word) (λ e. cc) fault same not
  not_joined (joins.Twice word) fault same not = of_parts (joins.Twice word) (λ e. cc) fault same not
  not_joined (joins.Length word) fault same not = of_parts (joins.Length word) (λ e. cc) fault same not
  not_joined (joins.Missing lots) fault same not = of_parts (joins.Missing lots) (λ e. cc) fault same not

-- a plan that is refused is told as it is, and want of memory is the program's own
pub no_plan : (options : LotOptions) (plan : List ℕ) → IsHow options.how → (error : PlanError)
    → IsPlanRefusal plan error → IsNoLot options plan (of_plan_error error)
no_plan options plan allowed plans.NotAPlan why = (allowed, (why, λ same. cc))
no_plan options plan allowed (plans.Refused refusal) why = (allowed, (why, λ same. cc))
no_plan options plan allowed plans.Memory why = tt

-- that there is no lot stops it before anything was written
module _ (options : LotOptions) (s : Streams) (untouched : IsUntouched s) (plan : List ℕ)
    (within : length plan ≤ MAX_INPUT_LENGTH) where
  pub stops_lot : (fault : Fault) → IsNoLot options plan fault → StopsLot options s fault
  stops_lot (faults.Usage line) why = absurd why.1
  stops_lot (faults.Name fault) why = absurd why.1
  stops_lot (faults.Refused refusal) why = absurd why.1
  stops_lot (faults.Piece error) why = absurd why.1
  stops_lot (faults.Recheck error) why = absurd why.1
  stops_lot (faults.Join error part) why = absurd why.1
  stops_lot (faults.NotAsMade good pieces) why = absurd why.1
  stops_lot (faults.Argument fault) why = absurd why.1
  stops_lot (faults.Scan fault) why = ((plan, within, why), untouched)
  stops_lot (faults.Make error) why = ((plan, within, why), untouched)
  stops_lot (faults.Plan error) why = ((plan, within, why), untouched)
  stops_lot faults.OutAmongFiles why = ((plan, within, why), untouched)
  stops_lot (faults.Read fault) why = absurd why.1
  stops_lot faults.TooLong why = absurd why.1
  stops_lot (faults.Write written) why = inl ((plan, within, why), untouched)
  stops_lot faults.Resources why = ((plan, within, why), untouched)
