use Rattle.std.proofs.Common.{refl, sym, arith}
use Rattle.sha2.proofs.Schedule256.{rounds_first}
use Rattle.tor_hashes.specs.steps.Lanes.{eight_of}
use Rattle.tor_hashes.specs.steps.Lanes.{window}
use Rattle.tor_hashes.proofs.Lanes.{word_of_window}
use Rattle.tor_hashes.proofs.sha256_rounds.first_round.Goals as goal

pub returns : goal.returns
returns c = λ j b h lt win held.
    rounds_first b h (window j c.args.w.now) (eight_of j c.args.v) c.args.t _ _ _ c.requires win held refl
    (sym (word_of_window c.args.w.now j c.args.t _ (omega (arith, c.told-w)))) (c.round.ensures j lt)
