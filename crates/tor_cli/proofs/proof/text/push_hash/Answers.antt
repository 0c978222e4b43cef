-- Types tell that a hash is 32 bytes.
use Rattle.std.proofs.Common.{Result, Ok, Err}
use Rattle.std.specs.Result.{OnOk}
use Rattle.tor_cli.proofs.HashDigits.{All-bytes}
use Rattle.tor_cli.specs.proof.ProofText.{IsHash}
use Rattle.tor_cli.proofs.proof.text.push_hash.Goals as goal

-- whatever is answered
in_any_case : {T E P : Type 0} (result : Result T E) → P → OnOk result P
in_any_case (Ok value) p = p
in_any_case (Err error) p = tt

pub returns-clause-hash : goal.returns-clause-hash
returns-clause-hash c =
    let is : IsHash c.args.hash.now =
    record { size = c.told-hash; bytes = All-bytes c.args.hash.now c.fits-hash } in
    in_any_case c.writeln.result is
