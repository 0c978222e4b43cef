use Rattle.tor_board.proofs.{Names.arith, Rising.{split_fits, split_small}}
use Rattle.tor_board.proofs.tree.Tree.slot_at.Goals as goal

pub middle-requires : goal.middle-requires
middle-requires c = split_fits c.args.self.now c.requires.low _ _ c.requires.within.0 c.requires.within.1

pub overflow_add-slot : goal.overflow_add-slot
overflow_add-slot c = let d = split_small c.args.self.now c.requires.low _ _ c.requires.within.0
    c.requires.within.1 in omega arith

pub overflow_mul-slot-else-level-self : goal.overflow_mul-slot-else-level-self
overflow_mul-slot-else-level-self c = let d = split_small c.args.self.now c.requires.low _ _ c.requires.within.0
    c.requires.within.1 in omega arith

pub overflow_add-slot-else-level-self : goal.overflow_add-slot-else-level-self
overflow_add-slot-else-level-self c = let d = split_small c.args.self.now c.requires.low _ _ c.requires.within.0
    c.requires.within.1 in omega arith
