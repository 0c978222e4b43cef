-- No fault of a plan is of a byte.
use Rattle.std.proofs.Common.{List, None, Option, Some, ℕ}
use Rattle.std.specs.declared.io.Error.{Error}
use Rattle.tor_meta.specs.Planned.{IsFaultOfLengths}
use Rattle.tor_meta.specs.declared.make_error.MakeError.{MakeError}
use Rattle.tor_meta.specs.declared.make_error.MakeError.TheVariants as makes
use Rattle.tor_sums.specs.declared.errors.EngineError.TheVariants as engine
use Rattle.tor_cli.specs.Place.{IsChosenMissing, IsNotFound}
use Rattle.tor_cli.specs.Status.{of_make_error}
use Rattle.tor_cli.specs.lots.Planning.{IsOfLengths}
use Rattle.tor_cli.specs.declared.fault.Fault.{Fault}
use Rattle.tor_cli.specs.declared.fault.Fault.TheVariants as faults

missing_of_lengths : (chosen : Option (List (List (List ℕ)))) (error : MakeError Error) → IsChosenMissing chosen error
    → IsFaultOfLengths error
missing_of_lengths (Some chosen) (makes.Hashing (engine.Missing file)) why = tt
missing_of_lengths (Some chosen) (makes.Hashing (engine.Read file start fault)) why = absurd why
missing_of_lengths (Some chosen) (makes.Hashing (engine.Changed file)) why = absurd why
missing_of_lengths (Some chosen) (makes.Hashing engine.Resources) why = absurd why
missing_of_lengths (Some chosen) (makes.Hashing (engine.StreamTooLong file)) why = absurd why
missing_of_lengths (Some chosen) makes.PieceLength why = absurd why
missing_of_lengths (Some chosen) makes.Workers why = absurd why
missing_of_lengths (Some chosen) makes.Span why = absurd why
missing_of_lengths (Some chosen) makes.Path why = absurd why
missing_of_lengths (Some chosen) makes.SingleShape why = absurd why
missing_of_lengths (Some chosen) makes.NotSorted why = absurd why
missing_of_lengths (Some chosen) (makes.List error) why = absurd why
missing_of_lengths (Some chosen) makes.ReservedPad why = absurd why
missing_of_lengths None error why = absurd why

-- why there are no files at a place
pub not_found_of_lengths : (name : List ℕ) (chosen : Option (List (List (List ℕ)))) (attrs : Option (List ℕ)) (fault : Fault)
    → IsNotFound name chosen attrs fault → IsOfLengths fault
not_found_of_lengths name chosen attrs (faults.Make error) why = missing_of_lengths chosen error why
not_found_of_lengths name chosen attrs fault why = tt

-- an error of planning
pub error_of_lengths : (error : MakeError Error) → IsFaultOfLengths error → IsOfLengths (of_make_error error)
error_of_lengths (makes.Hashing engine.Resources) of_lengths = tt
error_of_lengths (makes.Hashing (engine.Read file start fault)) of_lengths = of_lengths
error_of_lengths (makes.Hashing (engine.Changed file)) of_lengths = of_lengths
error_of_lengths (makes.Hashing (engine.Missing file)) of_lengths = tt
error_of_lengths (makes.Hashing (engine.StreamTooLong file)) of_lengths = of_lengths
error_of_lengths makes.PieceLength of_lengths = tt
error_of_lengths makes.Workers of_lengths = tt
error_of_lengths makes.Span of_lengths = tt
error_of_lengths makes.Path of_lengths = tt
error_of_lengths makes.SingleShape of_lengths = tt
error_of_lengths makes.NotSorted of_lengths = tt
error_of_lengths (makes.List error) of_lengths = tt
error_of_lengths makes.ReservedPad of_lengths = tt
