use Rattle.tor_meta.specs.FromInput.{refusal_of}
use Rattle.tor_meta.proofs.from_input.head_for.Goals as goal

pub returns-in-Err-clause-stopped : goal.returns-in-Err-clause-stopped
returns-in-Err-clause-stopped g c =
    c.refusal_after_reading.ensures (refusal_of c.args.order.now) c.in-Err.ensures.refused
