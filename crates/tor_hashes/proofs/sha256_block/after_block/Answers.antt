use Rattle.std.proofs.Common.{ap, ◌∙◌, refl}
use Rattle.sha2.specs.Sha256.{add_state, compress, rounds}
use Rattle.sha2.proofs.Schedule256.{IsWindow_first}
use Rattle.tor_hashes.specs.steps.Lanes.{eight_of, window}
use Rattle.tor_hashes.proofs.sha256_block.after_block.Goals as goal

pub returns : goal.returns
unfolding compress rounds
returns c = λ j b lt held.
    let h = eight_of j c.args.hash in
    let first = IsWindow_first b (window j c.args.words) held.0 held.1 in
    let s0 = c.first_rounds-v.ensures j b h lt first refl in
    let s1 = c.next_rounds-v.ensures j b h lt (first, s0) in
    let s2 = c.next_rounds-v-2.ensures j b h lt s1 in
    let s3 = c.next_rounds-v-3.ensures j b h lt s2 in
    c.added.ensures j lt ∙ ap (add_state h) s3.1
