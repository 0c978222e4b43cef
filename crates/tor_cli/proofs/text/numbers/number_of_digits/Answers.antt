-- The digits of a number are a text, and parsed as the number.
use Rattle.std.proofs.Common.{sym, ◌∙◌, ap}
use Rattle.std.specs.Result.{result_ok}
use Rattle.tor_cli.proofs.Numerals.{base_ten-text, base_ten-parsed}
use Rattle.tor_cli.proofs.text.numbers.number_of_digits.Goals as goal

pub returns-in-Ok : goal.returns-in-Ok
returns-in-Ok c n small same =
    c.ok.ensures.value
    ∙ ap result_ok
    (base_ten-parsed n c.in-Ok.text.now c.parse.result small (same ∙ sym c.in-Ok.ensures.cases.0)
    c.parse.ensures.value.0)

pub returns-in-Err : goal.returns-in-Err
returns-in-Err c n small same = absurd (c.in-Err.ensures.cases.0 (base_ten-text n c.args.text.now small same))
