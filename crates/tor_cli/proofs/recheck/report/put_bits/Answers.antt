-- The segments are those of the lines.
use Rattle.std.proofs.Common.{subst, ℕ, List}
use Rattle.std.specs.Prelude.{IfErr, OnOk}
use Rattle.tor_report.specs.Put.{Puts, Stops}
use Rattle.tor_cli.proofs.FoundSegments.{bits_segments}
use Rattle.tor_cli.proofs.recheck.report.put_bits.Goals as goal

pub returns-clause-put : goal.returns-clause-put
returns-clause-put g c =
    subst
    (λ (xs : List ℕ). OnOk c.put_all.result (Puts g.S.Sink.took xs c.args.out.now c.args.buffer.now
    c.put_all.new.out c.put_all.new.self))
    (bits_segments c.args.bits.now c.args.packed.now c.counts_of-counts.result c.counts_of-counts.ensures c.requires)
    c.put_all.ensures.put

pub returns-clause-stopped : goal.returns-clause-stopped
returns-clause-stopped g c =
    subst
    (λ (xs : List ℕ). IfErr c.put_all.result (λ fault. Stops g.S.Sink.took g.S.Sink.fails xs c.args.out.now
    c.args.buffer.now c.put_all.new.out fault.written))
    (bits_segments c.args.bits.now c.args.packed.now c.counts_of-counts.result c.counts_of-counts.ensures c.requires)
    c.put_all.ensures.stopped
