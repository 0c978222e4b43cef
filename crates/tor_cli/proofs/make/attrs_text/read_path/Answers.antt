-- A path has no part with a fault.
use Rattle.tor_cli.proofs.PathsTexts.{refused_is_none}
use Rattle.tor_cli.proofs.make.attrs_text.read_path.Goals as goal

pub returns-in_default : goal.returns-in_default
returns-in_default c =
    refused_is_none _ c.in-Err.fault c.in-Err.ensures.refused c.in_default.not-Memory
