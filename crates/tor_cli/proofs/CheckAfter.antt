-- Whether a torrent that was just made goes out.
use Rattle.std.proofs.Common.{◌≡◌, ◌≢◌, ℕ, List, sym, subst}
use Rattle.std.specs.Prelude.{IfErr, OnOk, Result, Ok, Err}
use Rattle.tor_check.specs.Valid.{IsTold}
use Rattle.tor_spec.specs.valid.View.{View}
use Rattle.tor_cli.specs.make.CheckAfter.{AreCounted, IsAsMade, IsNotAsMade}
use Rattle.tor_cli.specs.recheck.Recheck.{IsNotRechecked}
use Rattle.tor_cli.specs.declared.fault.Fault.{Fault}
use Rattle.tor_cli.specs.declared.fault.Fault.TheVariants as faults
use Rattle.tor_cli.specs.declared.recheck.counts.PieceCounts.{PieceCounts}

-- of what is not rechecked it is not told
pub not_kept : (workers : ℕ) (bytes : List ℕ) (fault : Fault) → IsNotRechecked workers bytes fault
    → IsNotAsMade workers bytes fault
not_kept workers bytes (faults.Usage line) why = why
not_kept workers bytes (faults.Name fault) why = why
not_kept workers bytes (faults.Scan fault) why = why
not_kept workers bytes (faults.Make error) why = why
not_kept workers bytes (faults.Refused refusal) why = why
not_kept workers bytes (faults.Piece error) why = why
not_kept workers bytes (faults.Recheck error) why = why
not_kept workers bytes (faults.Plan error) why = why
not_kept workers bytes (faults.Join error part) why = why
not_kept workers bytes (faults.NotAsMade good pieces) why = absurd why
not_kept workers bytes faults.OutAmongFiles why = why
not_kept workers bytes (faults.Argument fault) why = why
not_kept workers bytes (faults.Read fault) why = why
not_kept workers bytes faults.TooLong why = why
not_kept workers bytes (faults.Write written) why = why
not_kept workers bytes faults.Resources why = why

module _ {A : Type 0} (bytes : List ℕ) (view : View) (counts : PieceCounts) (told : IsTold bytes view)
    (counted : AreCounted view counts) where
  -- all pieces are there and right
  pub as_made : (result : Result A Fault) → OnOk result (counts.good ≡ counts.pieces) → OnOk result (IsAsMade bytes)
  as_made (Ok done) all = (counts, (view, told, counted), all)
  as_made (Err fault) all = tt

  -- not all are
  pub not_as_made : (workers : ℕ) (result : Result A Fault)
      → IfErr result (λ fault. (fault ≡ faults.NotAsMade counts.good counts.pieces) × (counts.good ≢ counts.pieces))
      → IfErr result (IsNotAsMade workers bytes)
  not_as_made workers (Ok done) some = tt
  not_as_made workers (Err fault) some =
      subst (λ why. IsNotAsMade workers bytes why) (sym some.0) ((view, told, counted), some.1)
