-- A text of another length has no hash.
use Rattle.std.proofs.Common.{◌≡◌, false, true, length, sym, ◌∙◌, ap}
use Rattle.std.specs.Option.{is_some}
use Rattle.std.proofs.lemmas.Bool.{false≢true}
use Rattle.tor_cli.proofs.HashDigits.{length-lowered}
use Rattle.tor_cli.proofs.text.digits.read_root.Goals as goal

pub returns-in_err-digits-clause-read : goal.returns-in_err-digits-clause-read
returns-in_err-digits-clause-read c hash (h, same) =
    let long = ap length c.as_bytes.ensures.value ∙ length-lowered hash c.args.text.now h same in
    let copied : false ≡ true =
    sym (ap is_some c.in_err-digits.was) ∙ c.ok.ensures.variant ∙ c.try_from.ensures.0 long in
    absurd (false≢true copied)
