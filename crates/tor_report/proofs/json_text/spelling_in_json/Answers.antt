-- Bytes are text or not.
use Rattle.tor_report.proofs.TextsInJson.{bytes_in_json, text_in_json}
use Rattle.tor_report.proofs.json_text.spelling_in_json.Goals as goal

pub returns-in-Ok : goal.returns-in-Ok
returns-in-Ok c = text_in_json c.args.bytes.now c.in-Ok.ensures.cases.1

pub returns-in-Err : goal.returns-in-Err
returns-in-Err c = bytes_in_json c.args.bytes.now c.in-Err.ensures.cases.0
