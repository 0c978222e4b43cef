-- Bytes are text or not.
use Rattle.std.proofs.Common.{◌∙◌, Bool, ap, sym}
use Rattle.std.proofs.lemmas.Result.{IfOk-weaker}
use Rattle.std.specs.Prelude.{if◌then◌else◌}
use Rattle.tor_report.specs.Escape.{in_ascii}
use Rattle.tor_cli.proofs.Escapes.{is_no_text, is_text}
use Rattle.tor_cli.proofs.text.escape.printable.Goals as goal

pub returns-in-Ok : goal.returns-in-Ok
returns-in-Ok c =
    let (same, text) = c.in-Ok.ensures.cases in
    let chosen = ap (λ (t : Bool). if t then c.args.bytes.now else in_ascii c.args.bytes.now)
    (sym (is_text c.args.bytes.now text)) in
    IfOk-weaker c.from_str.result _ _ (λ made is. is ∙ same ∙ chosen) c.from_str.ensures.ok

pub returns-in-Err : goal.returns-in-Err
returns-in-Err c =
    let chosen = ap (λ (t : Bool). if t then c.args.bytes.now else in_ascii c.args.bytes.now)
    (sym (is_no_text c.args.bytes.now c.in-Err.ensures.cases.0)) in
    IfOk-weaker c.in_ascii.result _ _ (λ line is. is ∙ chosen) c.in_ascii.ensures
