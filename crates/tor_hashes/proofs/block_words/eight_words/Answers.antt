use Rattle.std.proofs.Common.{◌≡◌, ◌+◌, ◌*◌, arith, ap, ◌∙◌}
use Rattle.sha2.specs.Sha256.{word_at}
use Rattle.tor_hashes.proofs.Lanes.{below_eight}
use Rattle.tor_hashes.proofs.block_words.eight_words.Goals as goal

pub returns : goal.returns
returns c =
    let first : c.args.at ≡ c.args.at + 4 * 0 = omega arith in
    below_eight _
    (c.word.ensures ∙ ap (word_at c.args.bytes.now) first)
    c.word-2.ensures c.word-3.ensures c.word-4.ensures c.word-5.ensures c.word-6.ensures c.word-7.ensures
    c.word-8.ensures
