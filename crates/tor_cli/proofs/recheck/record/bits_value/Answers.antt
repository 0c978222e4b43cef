-- The digits are the string.
use Rattle.std.proofs.Common.{◌∙◌, ap, List, ℕ}
use Rattle.std.proofs.lemmas.Result.{IfOk-weaker}
use Rattle.hex.specs.Hex.{encode_lower}
use Rattle.serde_json.specs.Data.{string}
use Rattle.tor_cli.proofs.recheck.record.bits_value.Goals as goal

pub returns : goal.returns
returns c =
    IfOk-weaker c.try_from_str.result _ _
    (λ value same.
    same ∙ ap (λ (text : List ℕ). string text) (c.as_str.ensures.value ∙ c.in_ok-digits.ensures
    ∙ ap encode_lower (c.as_slice.ensures.value ∙ c.in_ok-bitfield.ensures)))
    c.try_from_str.ensures
