use Rattle.std.proofs.Common.{ℕ, ◌*◌, ◌^◌, ◌<◌, refl, sym, ◌∙◌, arith}
use Rattle.tor_hashes.proofs.Lanes.{below_sixteen}
use Rattle.tor_hashes.proofs.PaddingSha1.{padding_whole, word_fourteen, word_fifteen}
use Rattle.tor_hashes.proofs.pieces.padding_words.Goals as goal

pub returns : goal.returns
returns c j lt =
    let n : ℕ = c.args.size * 8 in
    let fits : n < 2 ^ 32 = omega arith in
    let one = c.same-one.ensures j lt in
    let zero = c.same-zero.ensures j lt in
    let length = c.same-length.ensures j lt in
    rw (padding_whole c.args.size c.requires.whole c.requires.most) (
      refl,
      below_sixteen _ one zero zero zero zero zero zero zero zero zero zero zero zero zero
          (zero ∙ sym (word_fourteen n fits)) (length ∙ sym (word_fifteen n fits)),
    )
