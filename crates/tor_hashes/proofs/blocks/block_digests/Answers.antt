use Rattle.std.proofs.Common.{List, ℕ, ap, sym, ◌∙◌, refl}
use Rattle.sha2.specs.Sha256.{compress, digest_bytes, initial_hash_256, padding, sha256}
use Rattle.tor_hashes.proofs.PaddingSha256.{final_of_part}
use Rattle.tor_hashes.proofs.blocks.block_digests.Goals as goal

pub returns : goal.returns
unfolding sha256
returns c j bytes lt room hashed =
    let p : List ℕ = padding 16384 in
    let last = final_of_part initial_hash_256 bytes 16384 256 refl room refl in
    c.digests.ensures j lt
    ∙ ap (λ (h : List ℕ). digest_bytes h 8)
    (c.after_block-last.ensures j p lt (c.padding_words.ensures j lt)
    ∙ ap (λ (h : List ℕ). compress h p) hashed ∙ sym last)
