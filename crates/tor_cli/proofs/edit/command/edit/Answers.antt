-- The torrent, or a front of it, went out.
use Rattle.std.proofs.Common.{◌≤◌, arith, length, refl}
use Rattle.std.proofs.lemmas.Result.{IfErr-weaker, on_ok_weaker}
use Rattle.tor_source.specs.declared.input.TheConstants.{MAX_INPUT_LENGTH}
use Rattle.tor_cli.specs.edit.Editing.{StopsEditing, file_of}
use Rattle.tor_cli.specs.steps.Writing.{writing}
use Rattle.tor_cli.proofs.WholeFiles.{not_sent}
use Rattle.tor_cli.proofs.edit.command.edit.Goals as goal

pub returns-clause-stopped : goal.returns-clause-stopped
returns-clause-stopped g c reader =
    let within : length c.deref.result.now ≤ MAX_INPUT_LENGTH =
    omega (arith, c.deref.ensures.len, c.in_ok-bytes.ensures) in
    let part = rw c.deref-2.ensures.value at c.send_whole.ensures.part in
    IfErr-weaker c.send_whole.result _ _ (not_sent (file_of c.args.options.now) _ _ c.in_ok-edited.edited.items
    (StopsEditing c.args.options.now (writing reader (g.W.Write.contents c.args.out.now)
    (g.W.Write.contents c.send_whole.new.out)))
    (λ written front.
    (refl, (c.deref.result.now, within, (c.in_ok-edited.edited.items, c.in_ok-edited.ensures.edited, front))))
    (λ same. (refl, same))) (part c.in_ok-edited.ensures.some)

pub returns-clause-edited : goal.returns-clause-edited
returns-clause-edited g c reader =
    let within : length c.deref.result.now ≤ MAX_INPUT_LENGTH =
    omega (arith, c.deref.ensures.len, c.in_ok-bytes.ensures) in
    on_ok_weaker c.send_whole.result
    (λ sent. (refl, (c.deref.result.now, within, (c.in_ok-edited.edited.items, c.in_ok-edited.ensures.edited, sent))))
    (rw c.deref-2.ensures.value at c.send_whole.ensures.whole)
