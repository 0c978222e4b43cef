use Rattle.std.proofs.Common.{◌∙◌, ap, arith}
use Rattle.sha1.proofs.Schedule.{rounds_window}
use Rattle.tor_hashes.specs.steps.Lanes.{five_of, window}
use Rattle.tor_hashes.proofs.Lanes.{window_set}
use Rattle.tor_hashes.proofs.sha1_rounds.next_round.Goals as goal

pub returns : goal.returns
returns c = λ j b h lt held.
    let w = window j c.args.w.now in
    let word = c.next_word-word.ensures in
    rounds_window b h w (five_of j c.args.v) c.args.t _ _ _ _ _ (omega arith) (omega arith) held.0 held.1
    (word.value j lt) (ap (window j) word.window ∙ window_set c.args.w.now j _ c.next_word-word.result)
    (c.function-f.ensures j lt) c.constant.ensures (c.round.ensures j lt)
