use Rattle.std.proofs.Common.{◌≡◌, ◌*◌, ◌/◌, ◌≤◌, ap, sym, ◌∙◌, arith, List, ℕ, drop, length, length-drop}
use Rattle.sha1.specs.Sha1.{compress, digest_bytes, sha1, padding}
use Rattle.tor_hashes.proofs.PaddingSha1.{final_of_part, length-padding_whole}
use Rattle.tor_hashes.proofs.pieces.piece_hashes.Goals as goal

pub returns : goal.returns
unfolding sha1
returns c j lt =
    let b = c.args.pieces.now in
    let size = c.args.size in
    let n : ℕ = size / 64 in
    let d : List ℕ = drop (size * j) b in
    let p : List ℕ = padding size in
    let room : size ≤ length d = grind (arith, length-drop (size * j) b, c.requires) in
    let one : length p ≡ 64 = length-padding_whole size c.requires.whole c.requires.most in
    let last = final_of_part d size n (omega arith) room one in
    c.digests.ensures j lt
    ∙ ap (λ (h : List ℕ). digest_bytes h 5)
    (c.after_block-last.ensures j p lt (c.padding_words.ensures j lt)
    ∙ ap (λ (h : List ℕ). compress h p) (c.after_blocks-hash.ensures j lt) ∙ sym last)
