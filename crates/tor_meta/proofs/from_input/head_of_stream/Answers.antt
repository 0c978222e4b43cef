use Rattle.std.proofs.Common.{◌≡◌, ◌⊎◌, ◌∷◌, [], Option, Some, inl, subst, sym}
use Rattle.std.specs.declared.io.Error.{Error}
use Rattle.tor_meta.specs.FromInput.{stream_refusal_of}
use Rattle.tor_meta.specs.declared.make_error.MakeError.{MakeError}
use Rattle.tor_meta.specs.MakeError.{out_of_resources}
use Rattle.tor_meta.proofs.Refused.{refusal_of_stream, refused_for_numbers}
use Rattle.tor_meta.proofs.from_input.head_of_stream.Goals as goal

pub returns-in-Some-clause-stopped : goal.returns-in-Some-clause-stopped
returns-in-Some-clause-stopped g c =
    let order = c.args.order.now in
    c.refusal_after_reading.ensures (stream_refusal_of order)
    (inl (refused_for_numbers order ((order.name ∷ []) ∷ []) c.in-Some.refusal (sym c.in-Some.ensures)))

pub returns-in-Err-clause-stopped : goal.returns-in-Err-clause-stopped
returns-in-Err-clause-stopped g c =
    let order = c.args.order.now in
    let refusal = c.in-Err.refusal in
    c.refusal_after_reading-in-Err.ensures (stream_refusal_of order)
    (subst (λ (first : Option (MakeError Error)). (first ≡ Some refusal) ⊎ (refusal ≡ out_of_resources))
    (sym (refusal_of_stream {F = Error} order (sym c.in_default.ensures))) c.in-Err.ensures.refused)
