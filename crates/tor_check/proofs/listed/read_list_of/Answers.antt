use Rattle.tor_check.proofs.Names.{map, view}
use Rattle.tor_check.proofs.PathSteps.{same_items}
use Rattle.tor_check.proofs.listed.read_list_of.Goals as goal

pub returns-clause-read : goal.returns-clause-read
returns-clause-read c = rw (same_items (map view c.args.entries.now)) c.read_entries.ensures.read

pub returns-clause-shaped : goal.returns-clause-shaped
returns-clause-shaped c = rw (same_items (map view c.args.entries.now)) c.read_entries.ensures.shaped

pub returns-clause-refused : goal.returns-clause-refused
returns-clause-refused c = rw (same_items (map view c.args.entries.now)) c.read_entries.ensures.refused
