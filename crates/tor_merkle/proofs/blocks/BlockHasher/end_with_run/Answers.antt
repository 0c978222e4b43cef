-- the leaves of the last blocks at once
use Rattle.tor_merkle.proofs.Names.{◌*◌, ◌^◌, arith, ap, sym, ◌∙◌, le_trans, length-append}
use Rattle.tor_merkle.proofs.Runs.{run_joined, run_small, run_room}
use Rattle.tor_merkle.proofs.blocks.BlockHasher.end_with_run.Goals as goal

pub push_run-requires-clause-small : goal.push_run-requires-clause-small
push_run-requires-clause-small c =
    let b = c.self.inside in
    let keeps = rw (← c.self.view_is) at c.requires.keeps in
    let whole = rw (← c.self.view_is) at c.requires.whole in
    run_small b.count b.hasher b.tree.leaves b.fed.items c.self.invariant
    (omega (arith, c.self.invariant.counted, whole)) c.args.run.now
    (omega (arith, length-append b.fed.items c.args.run.now, keeps.small))

pub push_run-requires-clause-room : goal.push_run-requires-clause-room
push_run-requires-clause-room c =
    let b = c.self.inside in
    let keeps = rw (← c.self.view_is) at c.requires.keeps in
    let whole = rw (← c.self.view_is) at c.requires.whole in
    run_room b.count b.hasher b.tree.leaves b.fed.items c.self.invariant
    (omega (arith, c.self.invariant.counted, whole)) c.args.run.now b.tree.height b.tree.capacity
    (rw (← length-append b.fed.items c.args.run.now, ← keeps.piece) keeps.reserved)

pub invariant_of-result : goal.invariant_of-result
invariant_of-result c =
    let b = c.self.inside in
    let run = c.args.run.now in
    let keeps = rw (← c.self.view_is) at c.requires.keeps in
    let whole = rw (← c.self.view_is) at c.requires.whole in
    rw c.with.ensures (record {
      counted = omega (arith, c.self.invariant.counted, length-append b.fed.items run);
      allowed = keeps.allowed;
      piece = keeps.piece ∙ ap (λ k. 16384 * 2 ^ k) (sym c.push_run.ensures.height);
      whole =
          c.push_run.ensures.leaves
          ∙ run_joined b.count b.hasher b.tree.leaves b.fed.items c.self.invariant
          (omega (arith, c.self.invariant.counted, whole)) run;
      reserved = le_trans keeps.reserved c.push_run.ensures.capacity;
    })
