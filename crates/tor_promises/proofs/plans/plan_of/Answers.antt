-- what the library says
use Rattle.std.proofs.Common.{rules}
use Rattle.tor_promises.proofs.plans.plan_of.Goals as goal

pub returns : goal.returns
returns c = first_of (assumption, search rules)

pub of_entries-requires-clause-entries : goal.of_entries-requires-clause-entries
of_entries-requires-clause-entries c = first_of (assumption, search rules)
