-- What came of the parts so far, and of one more.
use Rattle.std.proofs.Common.{◌≡◌, arith, take, length, ◌++◌, length-append, length-take}
use Rattle.std.proofs.KnownBytes.{Consumes-trans}
use Rattle.tor_source.proofs.Inputs.{fault_after}
use Rattle.std.proofs.lemmas.Grind.{common_steps}
use Rattle.tor_source.proofs.input.read_parts.Goals as goal

pub returns-in-Err-clause-err : goal.returns-in-Err-clause-err
returns-in-Err-clause-err g c =
    let remaining = g.R.Read.remaining in
    let before = c.parts.invariant.taken in
    fault_after (remaining c.args.reader.now) (remaining c.parts.reader) (remaining c.fill_part.new.reader) c.args.limit
    c.parts.left c.in-Err.fault before.0 before.1 before.2 c.in-Err.ensures.err

pub returns-in-Err-take-clause-err : goal.returns-in-Err-take-clause-err
returns-in-Err-take-clause-err g c =
    let remaining = g.R.Read.remaining in
    let before = c.parts.invariant.taken in
    let part = take c.in-Ok.count c.fill_part.new.buffer in
    let given =
    Consumes-trans (remaining c.args.reader.now) (remaining c.parts.reader)
    (remaining c.fill_part.new.reader) before.0 part before.2 c.in-Ok.ensures.given in
    (before.0 ++ part, given, simp (length-append, length-take) (omega (arith, before.1, c.in-Ok.ensures.within)))

pub parts-preserved : goal.parts-preserved
parts-preserved g c =
    let remaining = g.R.Read.remaining in
    let before = c.parts.invariant.taken in
    let part = take c.in-Ok.count c.fill_part.new.buffer in
    let given =
    Consumes-trans (remaining c.args.reader.now) (remaining c.parts.reader)
    (remaining c.fill_part.new.reader) before.0 part before.2 c.in-Ok.ensures.given in
    let taken =
    g.met.I.Intake.takes_both c.args.intake.now c.parts.intake c.take.new.self before.0 part before.3
    (rw c.split_at.ensures.front at c.in-Ok-take.ensures.taken) in
    let counted : length part ≡ c.in-Ok.count =
    rw length-take (omega (arith, c.in-Ok.ensures.within, c.fill_part.ensures.buffer_stays)) in
    let rest =
    rw (c.split_at.ensures.front, counted) at (c.in-Ok-take.ensures.rest c.parts.left c.parts.invariant.allowed) in
    record {
      buffer = omega (arith, c.parts.invariant.buffer, c.fill_part.ensures.buffer_stays);
      allowed = rest;
      taken =
          (before.0 ++ part, rw length-append (omega (arith, before.1, counted, c.in-Ok.ensures.within)), given, taken);
    }

pub returns-then-count-lt-BUFFER_LENGTH-clause-whole : goal.returns-then-count-lt-BUFFER_LENGTH-clause-whole
returns-then-count-lt-BUFFER_LENGTH-clause-whole g c =
    let remaining = g.R.Read.remaining in
    let before = c.parts.invariant.taken in
    let part = take c.in-Ok.count c.fill_part.new.buffer in
    let given =
    Consumes-trans (remaining c.args.reader.now) (remaining c.parts.reader)
    (remaining c.fill_part.new.reader) before.0 part before.2 c.in-Ok.ensures.given in
    let taken =
    g.met.I.Intake.takes_both c.args.intake.now c.parts.intake c.take.new.self before.0 part before.3
    (rw c.split_at.ensures.front at c.in-Ok-take.ensures.taken) in
    let counted : length part ≡ c.in-Ok.count =
    rw length-take (omega (arith, c.in-Ok.ensures.within, c.fill_part.ensures.buffer_stays)) in
    let end = c.in-Ok.ensures.end (omega (arith, c.parts.invariant.buffer, c.if-count-lt-BUFFER_LENGTH.true)) in (
      before.0 ++ part,
      rw length-append (omega (arith, before.1, counted, c.in-Ok.ensures.within)),
      record { given = given; end = end },
      taken,
    )

pub parts-init : goal.parts-init
parts-init g c = grind (arith, common_steps)

pub take-requires : goal.take-requires
take-requires g c = grind (arith, common_steps)
