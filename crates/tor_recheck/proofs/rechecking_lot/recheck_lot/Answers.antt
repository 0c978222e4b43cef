-- those of the lot
use Rattle.tor_recheck.proofs.Names.{◌∙◌, ap, arith, contents_in, length}
use Rattle.std.proofs.lemmas.Grind.{common_steps}
use Rattle.tor_recheck.proofs.LotAnswers.{bits_found, counted}
use Rattle.tor_recheck.proofs.rechecking_lot.recheck_lot.Goals as goal

pub bits_by_hashes-requires-clause-within : goal.bits_by_hashes-requires-clause-within
bits_by_hashes-requires-clause-within g c =
    let range = c.range_of_lot-from.ensures in
    omega (arith, c.in-Ok.ensures.counted, range.first, range.after, range.ordered)

pub returns-clause-found : goal.returns-clause-found
returns-clause-found g c = λ how facts steady.
    let view = c.args.torrent.now in
    let range = c.range_of_lot-from.ensures in
    let found = c.in-Ok.ensures.hashed facts steady in (
      c.in_ok-bits.ensures
          ∙ bits_found view c.in-Ok.ensures.cut c.args.lots c.args.lot c.range_of_lot-from.result.0
          c.range_of_lot-from.result.1 range.first range.after (contents_in facts (length view.files)) c.in-Ok.hashes
          found.0,
      found.1,
    )

pub returns-clause-counted : goal.returns-clause-counted
returns-clause-counted g c =
    let view = c.args.torrent.now in
    let range = c.range_of_lot-from.ensures in
    ap length c.in_ok-bits.ensures
    ∙ counted view c.in-Ok.ensures.cut c.args.lots c.args.lot c.range_of_lot-from.result.0 c.range_of_lot-from.result.1
    range.first range.after c.in-Ok.hashes c.in-Ok.ensures.counted

pub returns-in_err-bits-clause-workers : goal.returns-in_err-bits-clause-workers
returns-in_err-bits-clause-workers g c = grind (arith, common_steps)

pub returns-in_err-bits-clause-of_lot : goal.returns-in_err-bits-clause-of_lot
returns-in_err-bits-clause-of_lot g c = grind (arith, common_steps)

pub returns-in_err-bits-clause-found : goal.returns-in_err-bits-clause-found
returns-in_err-bits-clause-found g c = grind (arith, common_steps)

pub returns-in_err-bits-clause-allowed : goal.returns-in_err-bits-clause-allowed
returns-in_err-bits-clause-allowed g c = grind (arith, common_steps)

pub returns-clause-workers : goal.returns-clause-workers
returns-clause-workers g c = grind (arith, common_steps)

pub returns-in-Err-clause-allowed : goal.returns-in-Err-clause-allowed
returns-in-Err-clause-allowed g c = grind (arith, common_steps)
