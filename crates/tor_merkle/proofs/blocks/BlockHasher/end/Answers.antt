-- the last block, whole or short
use Rattle.tor_merkle.proofs.Names.{[], ◌∷◌, ◌++◌, ◌*◌, ◌^◌, length, arith, ap, sym, ◌∙◌, add-zero, le_trans}
use Rattle.tor_merkle.proofs.Leaves.{done_small, done_room, leaves-whole, leaves-short}
use Rattle.tor_merkle.proofs.blocks.BlockHasher.end.Goals as goal
use Rattle.tor_merkle.proofs.blocks.BlockHasher.end.Goals.{then-count-gt0, else-count-gt0}

pub push-requires-clause-small : goal.push-requires-clause-small
push-requires-clause-small c =
    let b = c.self.inside in
    done_small b.count b.hasher b.tree.leaves b.fed.items c.self.invariant 0 (omega (arith, c.self.invariant.counted))
    (omega (arith, c.self.invariant.counted, c.self.invariant.small))

pub push-requires-clause-room : goal.push-requires-clause-room
push-requires-clause-room c =
    let b = c.self.inside in
    let keeps = rw (← c.self.view_is) at c.requires in
    done_room b.count b.hasher b.tree.leaves b.fed.items c.self.invariant 0 b.tree.height b.tree.capacity
    (rw (add-zero (length b.fed.items), ← keeps.piece) keeps.reserved)

pub invariant_of-result : goal.invariant_of-result
invariant_of-result c =
    let b = c.self.inside in
    let keeps = rw (← c.self.view_is) at c.requires in
    elim c.if-count-gt0.branch [
      | then-count-gt0 w ↦
          rw w.tree-is (record {
            counted = c.self.invariant.counted;
            allowed = keeps.allowed;
            piece = keeps.piece ∙ ap (λ k. 16384 * 2 ^ k) (sym w.push.ensures.height);
            whole =
                w.push.ensures.leaves
                ∙ ap (λ x. b.tree.leaves ++ x ∷ []) (c.finalize-leaf.ensures _ c.self.invariant.rest)
                ∙ leaves-short b.count b.hasher b.tree.leaves b.fed.items c.self.invariant w.if-count-gt0.true;
            reserved = le_trans keeps.reserved w.push.ensures.capacity;
          })
      | else-count-gt0 w ↦
          rw w.tree-is (record {
            counted = c.self.invariant.counted;
            allowed = keeps.allowed;
            piece = keeps.piece;
            whole =
                leaves-whole b.count b.hasher b.tree.leaves b.fed.items c.self.invariant
                (omega (arith, w.if-count-gt0.false));
            reserved = keeps.reserved;
          })
    ]
