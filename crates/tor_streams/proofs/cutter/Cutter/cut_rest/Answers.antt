-- nothing waits, or it is cut
use Rattle.std.proofs.Common.{arith}
use Rattle.tor_streams.proofs.Cutting.{cut_off, none_waits}
use Rattle.tor_streams.proofs.cutter.Cutter.cut_rest.Goals as goal

pub returns-then-self-eq0-clause-cut : goal.returns-then-self-eq0-clause-cut
returns-then-self-eq0-clause-cut g c = λ chunking contents current some has.
    none_waits chunking some contents current c.args.self.now has c.if-self-eq0.true

pub returns-clause-cut : goal.returns-clause-cut
returns-clause-cut g c = λ chunking contents current some has.
    cut_off chunking some contents current c.args.self.now c.cut.new.self has c.in_ok-cut.ensures.cut
    c.in_ok-cut.ensures.lane.1 (omega (arith, c.if-self-eq0.false))
