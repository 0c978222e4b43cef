use Rattle.std.proofs.Common.{ap, ◌∙◌, arith}
use Rattle.sha2.specs.Sha256.{rounds, schedule, padding}
use Rattle.tor_hashes.proofs.nodes.padding_rounds.Goals as goal

pub returns : goal.returns
returns g c = λ j h lt held.
    let after = rounds h (schedule (padding 64) 48) in
    let s1 = c.four_padding_rounds-v.ensures j h lt held in
    let s2 = c.four_padding_rounds-v-2.ensures j h lt (s1 ∙ ap after (omega arith)) in
    let s3 = c.four_padding_rounds-v-3.ensures j h lt (s2 ∙ ap after (omega arith)) in
    c.four_padding_rounds.ensures j h lt (s3 ∙ ap after (omega arith)) ∙ ap after (omega arith)
