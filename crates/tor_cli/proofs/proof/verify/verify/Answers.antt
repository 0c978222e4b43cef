-- The line of the answer, or a front of it, was written.
use Rattle.std.proofs.Common.{◌≤◌, ◌∙◌, arith, length, refl}
use Rattle.std.proofs.lemmas.Result.{err_from_is_err_and}
use Rattle.tor_source.specs.declared.input.TheConstants.{MAX_INPUT_LENGTH}
use Rattle.tor_cli.proofs.PieceBytes.{with_piece}
use Rattle.tor_cli.proofs.proof.verify.verify.Goals as goal

pub returns-in_err-write_out-clause-stopped : goal.returns-in_err-write_out-clause-stopped
returns-in_err-write_out-clause-stopped g c reader =
    let within : length c.deref.result.now ≤ MAX_INPUT_LENGTH =
    omega (arith, c.deref.ensures.len, c.in_ok-bytes.ensures) in
    let line = c.as_bytes.ensures.value ∙ c.answer_line.ensures in
    let short = rw line at c.in_err-write_out.ensures.part in
    let front = rw line at c.in_err-write_out.ensures.err in
    let judged = with_piece c.args.options.now _ _ c.in_ok-piece.ensures c.in_ok-answer.ensures.answered in
    let p =
    err_from_is_err_and c.from_residual-in_err-write_out.result c.from_residual-in_err-write_out.ensures.1 in
    rw (p.1, p.2) (
      refl,
      (
        c.in_ok-answer.answer,
        (
          c.in_ok-claim.claim,
          c.in_ok-claim.ensures.claimed,
          (c.deref.result.now, within, judged),
          (short, front),
        ),
      ),
    )

pub returns-clause-answered : goal.returns-clause-answered
returns-clause-answered g c reader =
    let within : length c.deref.result.now ≤ MAX_INPUT_LENGTH =
    omega (arith, c.deref.ensures.len, c.in_ok-bytes.ensures) in
    let line = c.as_bytes.ensures.value ∙ c.answer_line.ensures in
    let judged = with_piece c.args.options.now _ _ c.in_ok-piece.ensures c.in_ok-answer.ensures.answered in
    let whole = rw line at c.in_ok-write_out.ensures.ok in (
      refl,
      (
        c.in_ok-claim.claim,
        c.in_ok-claim.ensures.claimed,
        (c.deref.result.now, within, judged),
        whole,
      ),
    )
