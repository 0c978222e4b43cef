use Rattle.std.proofs.Common.{◌≡◌, ℕ, ◌+◌, ◌*◌, ◌<◌, ◌≤◌, length, refl, sym, ap, ◌∙◌, arith}
use Rattle.sha2.specs.Sha256.{word_at}
use Rattle.tor_hashes.specs.steps.Lanes.{word_of}
use Rattle.tor_hashes.proofs.Lanes.{words_of_halves, word_of_block}
use Rattle.tor_hashes.proofs.block_words.words_of_blocks.Goals as goal

pub returns : goal.returns
returns c j lane some =
    let b = c.args.bytes.now in
    let p : ℕ = c.args.size * j + c.args.at in
    let inside : p + 64 ≤ length b = grind arith in
    let low : (k : ℕ) → k < 8 → word_of j c.eight_of_each.result k ≡ word_at b (p + 4 * k) =
    λ k index. c.eight_of_each.ensures j k lane some index in
    let high : (k : ℕ) → k < 8 → word_of j c.eight_of_each-2.result k ≡ word_at b (p + 4 * (8 + k)) =
    λ k index.
    let at : c.args.size * j + (c.args.at + 32) + 4 * k ≡ p + 4 * (8 + k) = omega arith in
    c.eight_of_each-2.ensures j k lane some index ∙ ap (word_at b) at in (
      refl,
      λ k below.
          words_of_halves c.eight_of_each.result c.eight_of_each-2.result b j p low high k below
          ∙ sym (word_of_block b p k below inside),
    )
