-- one more hash, and all of them
use Rattle.std.proofs.Common.{◌∙◌}
use Rattle.std.proofs.lemmas.List.{take_all}
use Rattle.tor_parts.proofs.ProvedLaws.{joined_more}
use Rattle.tor_meta.proofs.fields.items.joined_hashes.Goals as goal

pub loop-hash-preserved : goal.loop-hash-preserved
loop-hash-preserved c =
    c.in_ok-extend_from_slice.ensures.items
    ∙ joined_more (λ hash. hash) c.args.hashes.now c.loop-hash.hash-index _ c.loop-hash.bytes.items
    c.loop-hash-test.true c.loop-hash.invariant

pub returns : goal.returns
returns c = rw (take_all c.loop-hash.hash-index c.args.hashes.now c.loop-hash-test.false) at c.loop-hash.invariant
