use Rattle.tor_edit.proofs.Lawful.{edited_is_lawful}
use Rattle.tor_edit.proofs.laws.edited_roots_are_lawful.Goals as goal

pub returns : goal.returns
returns c = edited_is_lawful _
