use Rattle.std.proofs.Common.{◌≤◌, length, List, ℕ, ◌*◌, drop, ap, sym, ◌∙◌, arith, refl, length-drop}
use Rattle.sha2.specs.Sha256.{compress, digest_bytes, initial_hash_256, padding, sha256}
use Rattle.tor_hashes.proofs.PaddingSha256.{final_of_part}
use Rattle.tor_hashes.proofs.nodes.node_hashes.Goals as goal

pub returns : goal.returns
unfolding sha256
returns c j lt =
    let d : List ℕ = drop (64 * j) c.args.nodes.now in
    let p : List ℕ = padding 64 in
    let room : 64 ≤ length d = omega (arith, length-drop (64 * j) c.args.nodes.now, c.requires) in
    let last = final_of_part initial_hash_256 d 64 1 refl room refl in
    c.digests.ensures j lt
    ∙ ap (λ (h : List ℕ). digest_bytes h 8)
    (c.after_padding-last.ensures j lt ∙ ap (λ (h : List ℕ). compress h p) (c.after_blocks-hash.ensures j lt lt)
    ∙ sym last)
