-- A front of the lot went out, or nothing.
use Rattle.std.proofs.Common.{◌≤◌, arith, inr, length, refl}
use Rattle.std.proofs.lemmas.Result.{IfErr-weaker, err_from_is_err_and, on_ok_weaker}
use Rattle.tor_source.specs.declared.input.TheConstants.{MAX_INPUT_LENGTH}
use Rattle.tor_cli.specs.lots.Lots.{StopsLot, file_of_lot}
use Rattle.tor_cli.specs.steps.Writing.{writing}
use Rattle.tor_cli.proofs.LotFaults.{stops_lot}
use Rattle.tor_cli.proofs.WholeFiles.{not_sent}
use Rattle.tor_cli.proofs.lots.lot.lot.Goals as goal

pub returns-clause-stopped : goal.returns-clause-stopped
returns-clause-stopped g c reader =
    let within : length c.deref.result.now ≤ MAX_INPUT_LENGTH =
    omega (arith, c.deref.ensures.len, c.in_ok-plan.ensures) in
    let part = rw c.deref-2.ensures.value at c.send_whole.ensures.part in
    IfErr-weaker c.send_whole.result _ _ (not_sent (file_of_lot c.args.options.now) _ _ c.in_ok-bytes.bytes.items
    (StopsLot c.args.options.now (writing reader (g.W.Write.contents c.args.out.now)
    (g.W.Write.contents c.send_whole.new.out)))
    (λ written front. inr (
      c.in_ok-bytes.ensures.allowed,
      refl,
      (c.deref.result.now, within, (c.in_ok-bytes.bytes.items, c.in_ok-bytes.ensures.made, front)),
    ))
    (λ same. ((c.deref.result.now, within, tt), (refl, same)))) (part c.in_ok-bytes.ensures.some)

pub returns-in_err-bytes-clause-stopped : goal.returns-in_err-bytes-clause-stopped
returns-in_err-bytes-clause-stopped g c reader =
    let within : length c.deref.result.now ≤ MAX_INPUT_LENGTH =
    omega (arith, c.deref.ensures.len, c.in_ok-plan.ensures) in
    let p = err_from_is_err_and c.from_residual-in_err-bytes.result c.from_residual-in_err-bytes.ensures.1 in
    rw (p.1, p.2) (stops_lot c.args.options.now _ (refl, refl) c.deref.result.now within c.in_err-bytes.field-0.0
    c.in_err-bytes.ensures.stopped)

pub returns-clause-made : goal.returns-clause-made
returns-clause-made g c reader =
    let within : length c.deref.result.now ≤ MAX_INPUT_LENGTH =
    omega (arith, c.deref.ensures.len, c.in_ok-plan.ensures) in
    on_ok_weaker c.send_whole.result
    (λ sent. (
      c.in_ok-bytes.ensures.allowed,
      refl,
      (c.deref.result.now, within, (c.in_ok-bytes.bytes.items, c.in_ok-bytes.ensures.made, sent)),
    ))
    (rw c.deref-2.ensures.value at c.send_whole.ensures.whole)
