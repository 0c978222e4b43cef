use Rattle.std.proofs.Common.{refl}
use Rattle.tor_hashes.proofs.Lanes.{below_sixteen}
use Rattle.tor_hashes.proofs.blocks.padding_words.Goals as goal

pub returns : goal.returns
returns c j lt =
    let one = c.same-one.ensures j lt in
    let length = c.same-length.ensures j lt in
    let zero = c.same-zero.ensures j lt in
    (refl, below_sixteen _ one zero zero zero zero zero zero zero zero zero zero zero zero zero zero length)
