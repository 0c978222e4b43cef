-- A character that is not written out keeps its bytes.
use Rattle.std.proofs.Common.{◌≡◌, ◌∙◌, sym, rules}
use Rattle.std.specs.Char.{encode_utf8}
use Rattle.tor_report.specs.Escape.{escaped}
use Rattle.tor_cli.proofs.Escapes.{plain_char}
use Rattle.tor_cli.proofs.text.escape.push_escaped.Goals as goal

pub returns-else-is_escaped : goal.returns-else-is_escaped
returns-else-is_escaped c =
    let stays : escaped (encode_utf8 c.args.c) ≡ encode_utf8 c.args.c =
    plain_char c.args.c (sym c.is_escaped.ensures ∙ c.if-is_escaped.false) in
    rw stays (search rules)
