use Rattle.tor_hashes.proofs.sha256_rounds.first_rounds.Goals as goal

pub returns : goal.returns
returns c = λ j b h lt window held.
    let s1 = c.four_first_rounds-v.ensures j b h lt window held in
    let s2 = c.four_first_rounds-v-2.ensures j b h lt window s1 in
    let s3 = c.four_first_rounds-v-3.ensures j b h lt window s2 in
    c.four_first_rounds.ensures j b h lt window s3
