-- What one read gave stands behind what came before it.
use Rattle.std.proofs.lemmas.Grind.{common_steps}
use Rattle.std.proofs.Common.{◌≡◌, ◌+◌, ◌-◌, ◌++◌, List, ℕ, length, take, arith, ap, length-append, length-take}
use Rattle.std.proofs.Common.{subst, sym, ◌∙◌}
use Rattle.std.proofs.KnownBytes.{Consumes-trans}
use Rattle.std.proofs.Math.Seq.{take-append-add}
use Rattle.std.specs.Io.KnownBytes.{Consumes}
use Rattle.tor_source.specs.Filling.{EndsFill}
use Rattle.tor_source.proofs.filling.fill.Goals as goal

pub after-requires : goal.after-requires
after-requires g c =
    let more = c.in-Err.ensures.err in
    (c.args.room - c.reads.filled, more.0, omega (arith, c.reads.invariant.within), more.2)

pub returns-in-Err-clause-err : goal.returns-in-Err-clause-err
returns-in-Err-clause-err g c =
    let remaining = g.R.Read.remaining in
    let old = c.reads.invariant in
    let front = take c.reads.filled c.reads.buffer in
    let more = c.in-Err.ensures.err in
    let counted : length front ≡ c.reads.filled = rw length-take (omega (arith, old.buffer, old.within)) in
    let room : c.reads.filled + (c.args.room - c.reads.filled) ≡ c.args.room = omega (arith, old.within) in (
      front ++ more.0,
      Consumes-trans (remaining c.args.reader.now) (remaining c.reads.reader) (remaining c.read_once.new.reader) front
          more.0 old.given more.1,
      subst (λ (n : ℕ). EndsFill n c.after.result (front ++ more.0)) room
          (c.after.ensures (c.args.room - c.reads.filled) front more.0 counted more.2),
    )

pub reads-preserved : goal.reads-preserved
reads-preserved g c =
    let remaining = g.R.Read.remaining in
    let old = c.reads.invariant in
    let front = c.split_at_mut-rest.result.0.now in
    let more = c.read_once.new.buffer in
    let filled : length front ≡ c.reads.filled = c.split_at_mut-rest.ensures.front_len in
    let rest = c.split_at_mut-rest.ensures.back_len in
    let came = take c.in-Ok.count more in
    let given : Consumes (remaining c.args.reader.now) (remaining c.reads.reader) front =
    subst (λ (bytes : List ℕ). Consumes (remaining c.args.reader.now) (remaining c.reads.reader) bytes)
    (sym c.split_at_mut-rest.ensures.front) old.given in
    record {
      buffer = length-append front more
          ∙ omega (arith, filled, rest, old.buffer, old.within, c.read_once.ensures.buffer_stays);
      within = omega (arith, filled, rest, old.buffer, old.within, c.in-Ok.ensures.within);
      given = subst (λ (bytes : List ℕ).
          Consumes (remaining c.args.reader.now) (remaining c.read_once.new.reader) bytes)
          (sym (take-append-add front more c.in-Ok.count)
          ∙ ap (λ n. take (n + c.in-Ok.count) (front ++ more)) filled)
          (Consumes-trans (remaining c.args.reader.now) (remaining c.reads.reader)
          (remaining c.read_once.new.reader) front came given c.in-Ok.ensures.given);
    }

pub returns-then-count-eq0-clause-given : goal.returns-then-count-eq0-clause-given
returns-then-count-eq0-clause-given g c = grind (arith, common_steps)
