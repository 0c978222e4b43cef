-- The digits of a hash are decoded to it.
use Rattle.std.proofs.Common.{◌∙◌, ap}
use Rattle.std.specs.Result.{result_ok}
use Rattle.tor_cli.proofs.HashDigits.{digits_decoded, if_decoded}
use Rattle.tor_cli.proofs.text.digits.of_either_case.Goals as goal

pub returns-clause-hash : goal.returns-clause-hash
returns-clause-hash c = rw c.ok.ensures.value (if_decoded c.args.text.now c.from_hex.result c.from_hex.ensures)

pub returns-clause-read : goal.returns-clause-read
returns-clause-read c hash h same =
    c.ok.ensures.value ∙ ap result_ok (c.from_hex.ensures ∙ digits_decoded hash c.args.text.now h same)
