use Rattle.std.proofs.Common.{◌∙◌, ◌<◌, slice_index, sym, arith}
use Rattle.sha1.proofs.Schedule.{rounds_first, round_constant_choose, round_fn_choose}
use Rattle.tor_hashes.specs.steps.Lanes.{five_of, window}
use Rattle.tor_hashes.proofs.Lanes.{word_of_window}
use Rattle.tor_hashes.proofs.sha1_rounds.first_round.Goals as goal

pub returns : goal.returns
returns c = λ j b h lt win held.
    let t = c.args.t in
    let v = five_of j c.args.v in
    let low : t < 20 = omega (arith, c.requires) in
    let constant = c.constant.ensures ∙ round_constant_choose t low in
    rounds_first b h (window j c.args.w.now) v t _ _ _ c.requires win held
    (sym (word_of_window c.args.w.now j t _ (omega (arith, c.told-w))))
    (c.function-f.ensures j lt ∙ round_fn_choose t (slice_index v 1) (slice_index v 2) (slice_index v 3) low)
    (rw constant at (c.round.ensures j lt))
