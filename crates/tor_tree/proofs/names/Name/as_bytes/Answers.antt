use Rattle.tor_tree.proofs.NameLemmas.{IsUtf8-faultless}
use Rattle.tor_tree.proofs.names.Name.as_bytes.Goals as goal

pub returns-clause-utf8 : goal.returns-clause-utf8
returns-clause-utf8 c = IsUtf8-faultless c.args.self.now (rw c.self.view_is at c.self.invariant)
