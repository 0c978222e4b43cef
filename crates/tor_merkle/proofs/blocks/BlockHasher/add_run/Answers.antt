-- the leaves of some blocks at once, where no block is begun
use Rattle.tor_merkle.proofs.Names.{arith}
use Rattle.tor_merkle.proofs.Runs.{run_small, run_room, adds_run}
use Rattle.tor_merkle.proofs.blocks.BlockHasher.add_run.Goals as goal

pub push_run-requires-clause-small : goal.push_run-requires-clause-small
push_run-requires-clause-small c =
    let b = c.self.inside in
    let fits = rw (← c.self.view_is) at c.requires in
    run_small b.count b.hasher b.tree.leaves b.fed.items c.self.invariant
    (omega (arith, c.self.invariant.counted, fits.whole)) c.args.run.now fits.small

pub push_run-requires-clause-room : goal.push_run-requires-clause-room
push_run-requires-clause-room c =
    let b = c.self.inside in
    let fits = rw (← c.self.view_is) at c.requires in
    run_room b.count b.hasher b.tree.leaves b.fed.items c.self.invariant
    (omega (arith, c.self.invariant.counted, fits.whole)) c.args.run.now b.tree.height b.tree.capacity fits.room

pub invariant_of-self : goal.invariant_of-self
invariant_of-self c =
    let b = c.self.inside in
    let fits = rw (← c.self.view_is) at c.requires in
    rw c.with-fed.ensures
    (adds_run b.count b.hasher b.tree.leaves b.fed.items c.self.invariant
    (omega (arith, c.self.invariant.counted, fits.whole)) c.args.run.now
    c.push_run.new.tree.leaves fits.cut fits.small c.push_run.ensures.leaves)
