-- Why the chosen are not there.
use Rattle.tor_cli.proofs.make.from_place.paths_at.Goals as goal

pub returns-in-Some-clause-stopped : goal.returns-in-Some-clause-stopped
returns-in-Some-clause-stopped c attrs = rw c.in-Some.is (c.chosen_at.ensures.stopped c.args.name.now attrs)
