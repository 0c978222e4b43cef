-- What bytes that did not go out whole stop.
use Rattle.std.proofs.Common.{◌≡◌, ℕ, List, Option}
use Rattle.tor_cli.specs.declared.fault.Fault.{Fault}
use Rattle.tor_cli.specs.declared.fault.Fault.TheVariants as faults
use Rattle.tor_cli.specs.make.Request.{SendsFront}
use Rattle.tor_cli.specs.steps.WholeFiles.{IsNotSent}

-- a front went out, or memory was refused before
module _ (file writer writer' : Option (List ℕ)) (bytes : List ℕ) (Stops : Fault → Type 0)
    (front : (written : ℕ) → SendsFront file writer writer' written bytes → Stops (faults.Write written))
    (memory : writer' ≡ writer → Stops faults.Resources) where
  pub not_sent : (fault : Fault) → IsNotSent file writer writer' bytes fault → Stops fault
  not_sent (faults.Usage line) why = absurd why
  not_sent (faults.Name fault) why = absurd why
  not_sent (faults.Scan fault) why = absurd why
  not_sent (faults.Make error) why = absurd why
  not_sent (faults.Refused refusal) why = absurd why
  not_sent (faults.Piece error) why = absurd why
  not_sent (faults.Recheck error) why = absurd why
  not_sent (faults.Plan error) why = absurd why
  not_sent (faults.Join error part) why = absurd why
  not_sent (faults.NotAsMade good pieces) why = absurd why
  not_sent faults.OutAmongFiles why = absurd why
  not_sent (faults.Argument fault) why = absurd why
  not_sent (faults.Read fault) why = absurd why
  not_sent faults.TooLong why = absurd why
  not_sent (faults.Write written) why = front written why
  not_sent faults.Resources why = memory why
