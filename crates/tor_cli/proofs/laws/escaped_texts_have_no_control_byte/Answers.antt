use Rattle.tor_cli.proofs.PlainLines.{plain}
use Rattle.tor_cli.proofs.laws.escaped_texts_have_no_control_byte.Goals as goal

pub returns : goal.returns
returns c = plain
