-- the first of the last bytes want no more room than all
use Rattle.tor_merkle.proofs.Names.{arith, length, length-append, le_trans, pow_pos, ◌+◌, ◌*◌, ◌^◌, ◌++◌}
use Rattle.tor_merkle.proofs.Ceil.{ceil_mono}
use Rattle.std.proofs.lemmas.Grind.{common_steps}
use Rattle.tor_merkle.proofs.blocks.BlockHasher.end_with.Goals as goal

pub feed-requires-clause-room : goal.feed-requires-clause-room
feed-requires-clause-room c =
    let self = c.args.self in
    let all = length-append self.bytes c.args.last.now in
    le_trans
    (ceil_mono (length self.bytes + length c.split_at.result.0.now) (length (self.bytes ++ c.args.last.now))
    (16384 * 2 ^ self.height) (omega (arith, pow_pos self.height)) (omega (arith, all, c.split_at.ensures.front_len)))
    (rw (← c.requires.piece) c.requires.reserved)

pub end-requires : goal.end-requires
end-requires c = grind (arith, common_steps)

pub end_with_run-requires : goal.end_with_run-requires
end_with_run-requires c = grind (arith, common_steps)

pub feed-requires-clause-small : goal.feed-requires-clause-small
feed-requires-clause-small c = grind (arith, common_steps)

pub returns : goal.returns
returns c = grind (arith, common_steps)

pub returns-then-is_empty : goal.returns-then-is_empty
returns-then-is_empty c = grind (arith, common_steps)
