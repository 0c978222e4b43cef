use Rattle.std.proofs.Common.{ap, ◌∙◌, arith}
use Rattle.sha1.specs.Sha1.{rounds, schedule}
use Rattle.tor_hashes.proofs.sha1_rounds.four_first_rounds.Goals as goal

pub returns : goal.returns
returns c = λ j b h lt window held.
    let after = rounds h (schedule b 64) in
    let s1 = c.first_round-v.ensures j b h lt window held in
    let s2 = c.first_round-v-2.ensures j b h lt window s1 in
    let s3 = c.first_round-v-3.ensures j b h lt window (s2 ∙ ap after (omega arith)) in
    c.first_round.ensures j b h lt window (s3 ∙ ap after (omega arith)) ∙ ap after (omega arith)
