-- No record has a float.
use Rattle.std.proofs.Common.{◌∙◌, ap}
use Rattle.serde_json.specs.Data.{Data}
use Rattle.serde_json.specs.Written.{has_float}
use Rattle.tor_cli.proofs.WithoutFloats.{no_float_in_extra}
use Rattle.tor_cli.proofs.recheck.extra_text.extra_record.Goals as goal

pub line_of-requires : goal.line_of-requires
line_of-requires c =
    ap (λ (told : Data). has_float told) c.in_ok-extra_value.ensures ∙ no_float_in_extra c.args.extra.now
