use Rattle.std.proofs.Common.{refl, ap, ◌∙◌}
use Rattle.sha2.specs.Sha256.{add_state, compress, rounds}
use Rattle.tor_hashes.specs.steps.Lanes.{eight_of}
use Rattle.tor_hashes.proofs.nodes.after_padding.Goals as goal

pub returns : goal.returns
unfolding compress rounds
returns c j lt =
    let h = eight_of j c.args.hash in
    let s1 = c.padding_rounds-v.ensures j h lt refl in
    let s2 = c.padding_rounds-v-2.ensures j h lt s1 in
    let s3 = c.padding_rounds-v-3.ensures j h lt s2 in
    let s4 = c.padding_rounds-v-4.ensures j h lt s3 in
    c.added.ensures j lt ∙ ap (add_state h) s4
