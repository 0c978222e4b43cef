-- Why they are not joined is that of the plan and the parts that were read, and so is the front that went out.
use Rattle.std.proofs.Common.{◌≡◌, ◌≤◌, ◌∙◌, arith, length, map, refl, sym}
use Rattle.std.proofs.lemmas.List.{length-map}
use Rattle.std.proofs.lemmas.Result.{IfErr-weaker, on_ok_weaker}
use Rattle.tor_source.specs.declared.input.TheConstants.{MAX_INPUT_LENGTH}
use Rattle.tor_cli.specs.lots.Lots.{StopsJoining, file_of_join}
use Rattle.tor_cli.specs.steps.Writing.{writing}
use Rattle.tor_cli.proofs.LotFaults.{not_joined}
use Rattle.tor_cli.proofs.Sizes.{info_has_bytes}
use Rattle.tor_cli.proofs.WholeFiles.{not_sent}
use Rattle.tor_cli.proofs.lots.join.join.Goals as goal

pub returns-in-Err-clause-stopped : goal.returns-in-Err-clause-stopped
returns-in-Err-clause-stopped g c reader =
    let within : length c.deref-2.result.now ≤ MAX_INPUT_LENGTH =
    omega (arith, c.deref-2.ensures.len, c.in_ok-plan.ensures) in
    let each : length (map (λ text. text.items) c.deref-3.result.now) ≡ length c.args.options.now.parts.items =
    rw (c.deref-3.ensures.value, sym c.deref.ensures.value) (length-map _ _ ∙ c.in_ok-parts.ensures) in
    let named = rw c.deref-in-Err.ensures.value at c.in_ok-join_fault-in-Err.ensures in
    not_joined c.args.options.now _ (refl, refl) c.in-Err.error c.in_ok-join_fault-in-Err.field-0 named
    (c.deref-2.result.now, within, (map (λ text. text.items) c.deref-3.result.now, each, c.in-Err.ensures.refused))

pub returns-clause-stopped : goal.returns-clause-stopped
returns-clause-stopped g c reader =
    let within : length c.deref-2.result.now ≤ MAX_INPUT_LENGTH =
    omega (arith, c.deref-2.ensures.len, c.in_ok-plan.ensures) in
    let each : length (map (λ text. text.items) c.deref-3.result.now) ≡ length c.args.options.now.parts.items =
    rw (c.deref-3.ensures.value, sym c.deref.ensures.value) (length-map _ _ ∙ c.in_ok-parts.ensures) in
    let torrent = c.in-Ok.torrent.items in
    let part = rw c.deref-4.ensures.value at c.send_whole.ensures.part in
    IfErr-weaker c.send_whole.result _ _ (not_sent (file_of_join c.args.options.now) _ _ torrent
    (StopsJoining c.args.options.now (writing reader (g.W.Write.contents c.args.out.now)
    (g.W.Write.contents c.send_whole.new.out)))
    (λ written front. (
      refl,
      (
        torrent,
        (
          c.deref-2.result.now,
          within,
          (map (λ text. text.items) c.deref-3.result.now, each, c.in-Ok.ensures.joined),
        ),
        front,
      ),
    ))
    (λ same. (refl, same))) (part (info_has_bytes torrent c.in-Ok.ensures.info))

pub returns-clause-made : goal.returns-clause-made
returns-clause-made g c reader =
    let within : length c.deref-2.result.now ≤ MAX_INPUT_LENGTH =
    omega (arith, c.deref-2.ensures.len, c.in_ok-plan.ensures) in
    let each : length (map (λ text. text.items) c.deref-3.result.now) ≡ length c.args.options.now.parts.items =
    rw (c.deref-3.ensures.value, sym c.deref.ensures.value) (length-map _ _ ∙ c.in_ok-parts.ensures) in
    on_ok_weaker c.send_whole.result
    (λ sent. (
      refl,
      (
        c.in-Ok.torrent.items,
        (
          c.deref-2.result.now,
          within,
          (map (λ text. text.items) c.deref-3.result.now, each, c.in-Ok.ensures.joined),
        ),
        sent,
      ),
    ))
    (rw c.deref-4.ensures.value at c.send_whole.ensures.whole)
