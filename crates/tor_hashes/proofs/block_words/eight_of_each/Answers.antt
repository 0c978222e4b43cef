use Rattle.std.proofs.Common.{◌≡◌, ℕ, ◌+◌, ◌*◌, ◌<◌, ap, ◌∙◌, arith}
use Rattle.sha2.specs.Sha256.{word_at}
use Rattle.tor_hashes.specs.steps.Lanes.{word_of}
use Rattle.tor_hashes.proofs.Lanes.{below_eight}
use Rattle.tor_hashes.proofs.block_words.eight_of_each.Goals as goal

pub returns : goal.returns
returns c j k lane some index =
    let b = c.args.bytes.now in
    let at : ℕ = c.args.at in
    let from : (start lane : ℕ) → start ≡ c.args.size * lane
    → word_at b (start + at + 4 * k) ≡ word_at b (c.args.size * lane + at + 4 * k) =
    λ start lane is. ap (λ (n : ℕ). word_at b (n + at + 4 * k)) is in
    below_eight (λ j. j < c.args.messages → word_of j c.transposed.result k ≡ word_at b (c.args.size * j + at + 4 * k))
    (λ m. c.transposed.ensures 0 k (omega arith) index ∙ c.eight_words.ensures k index
    ∙ from c.start.result 0 (c.start.ensures.message m))
    (λ m. c.transposed.ensures 1 k (omega arith) index ∙ c.eight_words-2.ensures k index
    ∙ from c.start-2.result 1 (c.start-2.ensures.message m))
    (λ m. c.transposed.ensures 2 k (omega arith) index ∙ c.eight_words-3.ensures k index
    ∙ from c.start-3.result 2 (c.start-3.ensures.message m))
    (λ m. c.transposed.ensures 3 k (omega arith) index ∙ c.eight_words-4.ensures k index
    ∙ from c.start-4.result 3 (c.start-4.ensures.message m))
    (λ m. c.transposed.ensures 4 k (omega arith) index ∙ c.eight_words-5.ensures k index
    ∙ from c.start-5.result 4 (c.start-5.ensures.message m))
    (λ m. c.transposed.ensures 5 k (omega arith) index ∙ c.eight_words-6.ensures k index
    ∙ from c.start-6.result 5 (c.start-6.ensures.message m))
    (λ m. c.transposed.ensures 6 k (omega arith) index ∙ c.eight_words-7.ensures k index
    ∙ from c.start-7.result 6 (c.start-7.ensures.message m))
    (λ m. c.transposed.ensures 7 k (omega arith) index ∙ c.eight_words-8.ensures k index
    ∙ from c.start-8.result 7 (c.start-8.ensures.message m)) j lane some
