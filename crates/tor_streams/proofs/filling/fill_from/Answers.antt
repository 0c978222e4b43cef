-- what came stands behind what was there
use Rattle.std.proofs.Common.{◌≡◌, ◌+◌, ◌++◌, arith, ap, sym, ◌∙◌, take, length, length-take}
use Rattle.std.proofs.Math.Seq.{take-append-add}
use Rattle.tor_streams.proofs.filling.fill_from.Goals as goal

pub returns-in-Ok-clause-came : goal.returns-in-Ok-clause-came
returns-in-Ok-clause-came g c =
    let front = c.split_at_mut-rest.result.0.now in
    let more = c.fill.new.buffer in
    let count = c.in-Ok.count in
    let filled : length front ≡ c.args.filled = c.split_at_mut-rest.ensures.front_len in
    let rest = c.split_at_mut-rest.ensures.back_len in (
      take count more,
      c.in-Ok.ensures.given,
      length-take count more ∙ omega (arith, c.in-Ok.ensures.within, c.fill.ensures.buffer_stays),
      c.in-Ok.ensures.within.1,
      omega (arith, c.in-Ok.ensures.within, rest, filled),
      ap (λ n. take (n + count) (front ++ more)) (sym filled) ∙ take-append-add front more count
          ∙ ap (λ xs. xs ++ take count more) c.split_at_mut-rest.ensures.front,
    )
