-- what the library says
use Rattle.std.proofs.Common.{rules}
use Rattle.tor_promises.proofs.trees.root_and_layer.Goals as goal

pub returns-clause-empty : goal.returns-clause-empty
returns-clause-empty c = first_of (assumption, search rules)

pub returns-clause-root : goal.returns-clause-root
returns-clause-root c = first_of (assumption, search rules)

pub returns-clause-layer : goal.returns-clause-layer
returns-clause-layer c = first_of (assumption, search rules)

pub returns-clause-nothing : goal.returns-clause-nothing
returns-clause-nothing c = first_of (assumption, search rules)
