use Rattle.tor_source.specs.steps.Order.{HasFound, IsAhead}
use Rattle.tor_source.proofs.folder.walk.walk_on.Given as goal

abbrev pub invariant-loop : goal.invariant-loop
invariant-loop g l = HasFound l.found × IsAhead l.found.paths.items l.last.items l.waiting.items
