-- the reader's content is what came until it was at its end
use Rattle.std.proofs.Common.{◌≡◌, ◌+◌, ◌-◌, ◌++◌, ℕ, [], ap, arith, refl, ◌∙◌, subst}
use Rattle.std.proofs.Common.{length-append}
use Rattle.std.proofs.KnownBytes.{Consumes-nil, Consumes-trans}
use Rattle.std.proofs.lemmas.Result.{err_from_is_err_and}
use Rattle.tor_streams.specs.declared.pairs.Pairs.{Pairs}
use Rattle.tor_streams.specs.steps.Cuts.{EndsReading}
use Rattle.tor_streams.proofs.Cutting.{bytes_came, cut_whole, lanes_join, some_size}
use Rattle.tor_streams.proofs.cutter.Cutter.read_whole.Goals as goal

pub chunks-init : goal.chunks-init
chunks-init g c =
    let ready = c.requires.ready.1 in record {
      bytes = [];
      counted = refl;
      small = omega arith;
      came = Consumes-nil (g.R.Read.remaining c.args.reader.now);
      room = omega (arith, ready.room, ready.has.buffer);
      cut = λ contents has. has;
      lane = (refl, refl);
      opened = ready.has.opened;
    }

pub stop_after-requires : goal.stop_after-requires
stop_after-requires g c =
    let more = c.in-Err.ensures.fault in (
      c.args.limit - c.chunks.count,
      more.0,
      omega (arith, c.chunks.invariant.small, c.requires.small),
      more.2,
    )

pub returns-in-Err-clause-stopped : goal.returns-in-Err-clause-stopped
returns-in-Err-clause-stopped g c =
    let remaining = g.R.Read.remaining in
    let before = c.chunks.invariant in
    let more = c.in-Err.ensures.fault in
    let room : c.chunks.count + (c.args.limit - c.chunks.count) ≡ c.args.limit = omega (arith, before.small) in (
      before.bytes ++ more.0,
      Consumes-trans (remaining c.args.reader.now) (remaining c.chunks.reader) (remaining c.fill.new.reader)
          before.bytes more.0 before.came more.1,
      subst (λ (n : ℕ). EndsReading n c.stop_after.result (before.bytes ++ more.0)) room
          (c.stop_after.ensures (c.args.limit - c.chunks.count) before.bytes more.0 before.counted more.2),
    )

pub returns-then-self-len-clause-read : goal.returns-then-self-len-clause-read
returns-then-self-len-clause-read g c =
    let remaining = g.R.Read.remaining in
    let before = c.chunks.invariant in
    let came = c.in-Ok.ensures.came in
    let kept = c.fill.ensures.kept in
    let long = length-append before.bytes came.0 ∙ omega (arith, before.counted, came.2) in (
      before.bytes ++ came.0,
      record {
        given = Consumes-trans (remaining c.args.reader.now) (remaining c.chunks.reader) (remaining c.fill.new.reader)
            before.bytes came.0 before.came came.1;
        end = c.in-Ok.ensures.end (omega (arith, c.if-self-len.true, c.len.ensures));
      },
      long,
      omega (arith, came.3, before.small),
      λ contents ready.
          c.in_ok-end_content.ensures.ended contents (before.bytes ++ came.0)
          (bytes_came c.args.chunking (some_size c.args.chunking c.requires.cut) contents before.bytes came.0
          c.chunks.self c.fill.new.self (before.cut contents ready.has) c.fill.ensures.pairs kept.0 kept.1 kept.2
          kept.3 came.5 came.6) long,
    )

pub returns-in_err-end_content-clause-stopped : goal.returns-in_err-end_content-clause-stopped
returns-in_err-end_content-clause-stopped g c =
    let p = err_from_is_err_and c.from_residual.result c.from_residual.ensures.1 in
    let remaining = g.R.Read.remaining in
    let before = c.chunks.invariant in
    let came = c.in-Ok.ensures.came in
    rw (p.1, p.2) (
      before.bytes ++ came.0,
      Consumes-trans (remaining c.args.reader.now) (remaining c.chunks.reader) (remaining c.fill.new.reader)
          before.bytes came.0 before.came came.1,
      omega (arith, length-append before.bytes came.0, before.counted, came.2, came.3, before.small),
    )

pub returns-in_err-cut-clause-stopped : goal.returns-in_err-cut-clause-stopped
returns-in_err-cut-clause-stopped g c =
    let p = err_from_is_err_and c.from_residual-in_err-cut.result c.from_residual-in_err-cut.ensures.1 in
    let remaining = g.R.Read.remaining in
    let before = c.chunks.invariant in
    let came = c.in-Ok.ensures.came in
    rw (p.1, p.2) (
      before.bytes ++ came.0,
      Consumes-trans (remaining c.args.reader.now) (remaining c.chunks.reader) (remaining c.fill.new.reader)
          before.bytes came.0 before.came came.1,
      omega (arith, length-append before.bytes came.0, before.counted, came.2, came.3, before.small),
    )

pub chunks-preserved : goal.chunks-preserved
chunks-preserved g c =
    let remaining = g.R.Read.remaining in
    let before = c.chunks.invariant in
    let came = c.in-Ok.ensures.came in
    let kept = c.fill.ensures.kept in
    let more = c.in_ok-cut.ensures.cut in
    let full = c.len.ensures in record {
      bytes = before.bytes ++ came.0;
      counted = length-append before.bytes came.0 ∙ omega (arith, before.counted, came.2);
      small = omega (arith, came.3, before.small);
      came = Consumes-trans (remaining c.args.reader.now) (remaining c.chunks.reader) (remaining c.fill.new.reader)
          before.bytes came.0 before.came came.1;
      room = omega (arith, more.filled, more.buffer, kept.3, before.room);
      cut = λ contents has.
          let chunking = c.args.chunking in
          let some = some_size chunking c.requires.cut in
          let has_more = bytes_came chunking some contents before.bytes came.0 c.chunks.self c.fill.new.self
          (before.cut contents has) c.fill.ensures.pairs kept.0 kept.1 kept.2 kept.3 came.5 came.6 in
          let whole : c.fill.new.self.filled ≡ chunking.size =
          omega (arith, came.5, c.if-self-len.false, full, has_more.buffer) in
          cut_whole chunking some contents (before.bytes ++ came.0) c.fill.new.self c.cut.new.self has_more more
          c.in_ok-cut.ensures.lane.1 (omega (arith, whole, some)) whole;
      lane = lanes_join c.args.self.now.pairs.feeder c.chunks.self.pairs.feeder c.fill.new.self.pairs.feeder
          c.cut.new.self.pairs.feeder before.lane (ap (λ (p : Pairs). p.feeder) c.fill.ensures.pairs)
          c.in_ok-cut.ensures.lane.0;
      opened = c.in_ok-cut.ensures.lane.1;
    }
