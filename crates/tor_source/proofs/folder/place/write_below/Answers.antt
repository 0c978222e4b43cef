use Rattle.std.proofs.Common.{[], arith, ap, length, ◌∙◌}
use Rattle.std.proofs.lemmas.Grind.{common_steps}
use Rattle.std.proofs.lemmas.List.{length_push}
use Rattle.std.proofs.lemmas.Result.{err_from_is_err_and}
use Rattle.tor_tree.specs.Name.{slash}
use Rattle.tor_source.proofs.Placed.{is_longer}
use Rattle.tor_source.proofs.folder.place.write_below.Goals as goal

pub returns-in_err-append-2-clause-refused : goal.returns-in_err-append-2-clause-refused
returns-in_err-append-2-clause-refused _ c =
    let p = err_from_is_err_and c.from_residual-in_err-append-2.result c.from_residual-in_err-append-2.ensures.1 in
    let refused = c.in_err-append-2.ensures.refused in
    rw (p.1, p.2) (
      refused.0,
      omega (
        arith,
        refused.1,
        ap length c.loop-name.invariant,
        is_longer c.args.place.now c.args.names.now c.loop-name.name-index [] c.loop-name-test.true,
      ),
    )

pub returns-in_err-append-3-clause-refused : goal.returns-in_err-append-3-clause-refused
returns-in_err-append-3-clause-refused _ c =
    let p = err_from_is_err_and c.from_residual-in_err-append-3.result c.from_residual-in_err-append-3.ensures.1 in
    let refused = c.in_err-append-3.ensures.refused in
    rw (p.1, p.2) (
      refused.0,
      omega (
        arith,
        refused.1,
        ap length c.in_ok-append-2.ensures.appended,
        length_push c.loop-name.text.bytes slash,
        ap length c.loop-name.invariant,
        ap length (c.as_str.ensures ∙ c.name-item.is),
        is_longer c.args.place.now c.args.names.now c.loop-name.name-index c.name-item.result
            c.loop-name-test.true,
      ),
    )

pub loop-name-preserved : goal.loop-name-preserved
loop-name-preserved _ c = grind (arith, common_steps)

pub returns-in_err-append-clause-refused : goal.returns-in_err-append-clause-refused
returns-in_err-append-clause-refused g c = grind (arith, common_steps)

pub returns-clause-written : goal.returns-clause-written
returns-clause-written g c = grind (arith, common_steps)
