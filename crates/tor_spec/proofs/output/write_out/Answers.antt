-- The front that went out, and what the last write took of the rest, are a longer front.
use Rattle.std.proofs.lemmas.Grind.{common_steps}
use Rattle.std.proofs.Common.{arith, drop, take}
use Rattle.std.proofs.Math.Seq.{take-add}
use Rattle.std.proofs.KnownBytes.{Appends-trans}
use Rattle.tor_spec.proofs.output.write_out.Goals as goal

pub loop-written-preserved : goal.loop-written-preserved
loop-written-preserved g c =
    let contents = g.W.Write.contents in
    let front = c.loop-written.written in
    let bytes = c.args.bytes.now in
    record {
      inside = omega (arith, c.in-Ok.ensures.bound);
      sent =
          rw take-add
          (Appends-trans (contents c.args.writer.now) (contents c.loop-written.writer) (contents c.write.new.self)
          (take front bytes) (take c.in-Ok.count (drop front bytes))
          c.loop-written.invariant.sent (rw c.split_at.ensures.back at c.in-Ok.ensures.bytes));
    }

pub returns-clause-ok : goal.returns-clause-ok
returns-clause-ok g c = grind (arith, common_steps)
