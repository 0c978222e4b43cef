-- a part that ends its block, and one that does not
use Rattle.tor_merkle.proofs.Names.{◌+◌, ◌%◌, ◌≤◌, [], ◌∷◌, ◌++◌, length, arith, ap, ◌∙◌}
use Rattle.tor_merkle.proofs.Leaves.{done_small, done_room, adds_open, adds_full}
use Rattle.tor_merkle.proofs.blocks.BlockHasher.add.Goals.{then-self-eq0, else-self-eq0}
use Rattle.tor_merkle.proofs.blocks.BlockHasher.add.Goals as goal

pub push-requires-clause-small : goal.push-requires-clause-small
push-requires-clause-small c =
    let b = c.self.inside in
    done_small b.count b.hasher b.tree.leaves b.fed.items c.self.invariant (length c.args.part.now)
    (omega (arith, c.self.invariant.counted, c.requires.some))
    (rw (← c.self.view_is) at c.requires.small)

pub push-requires-clause-room : goal.push-requires-clause-room
push-requires-clause-room c =
    let b = c.self.inside in
    done_room b.count b.hasher b.tree.leaves b.fed.items c.self.invariant
    (length c.args.part.now) b.tree.height b.tree.capacity (rw (← c.self.view_is) at c.requires.room)

pub invariant_of-self : goal.invariant_of-self
invariant_of-self c =
    let b = c.self.inside in
    let small = rw (← c.self.view_is) at c.requires.small in
    let within = rw (← c.self.view_is) at c.requires.within in
    let fits : b.count % 16384 + length c.args.part.now ≤ 16384 = omega (arith, c.self.invariant.counted, within) in
    elim c.if-self-eq0.branch [
      | then-self-eq0 w ↦
          rw (w.self-inside-is, c.with-fed.ensures)
          (adds_full b.count b.hasher b.tree.leaves b.fed.items c.self.invariant c.args.part.now
          w.finalize_reset-leaf.new.self w.push.new.self.leaves c.requires.some fits small w.if-self-eq0.true
          (w.push.ensures.leaves ∙ ap (λ x. b.tree.leaves ++ x ∷ [])
          (w.finalize_reset-leaf.ensures.digest _ (c.update.ensures _ c.self.invariant.rest)))
          w.finalize_reset-leaf.ensures.empty)
      | else-self-eq0 w ↦
          rw (w.self-inside-is, c.with-fed.ensures)
          (adds_open b.count b.hasher b.tree.leaves b.fed.items c.self.invariant c.args.part.now
          c.update.new.self fits small w.if-self-eq0.false c.update.ensures)
    ]
