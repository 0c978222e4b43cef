-- the content is closed
use Rattle.std.proofs.Common.{◌≡◌, true, false, arith, refl, ap, sym, ◌∙◌}
use Rattle.tor_streams.specs.steps.Cuts.{zeros_between}
use Rattle.tor_streams.proofs.CutEnds.{content_ends, content_stays}
use Rattle.tor_streams.proofs.Cutting.{some_size}
use Rattle.tor_streams.proofs.cutter.Cutter.end_content.Goals as goal

pub returns-then-not-has_v2-clause-ended : goal.returns-then-not-has_v2-clause-ended
returns-then-not-has_v2-clause-ended g c = λ contents content has long. record {
  has = content_stays c.args.chunking (some_size c.args.chunking c.requires.cut) contents content c.args.self.now
      (λ trees. let no : false ≡ true = sym c.if-not-has_v2.true ∙ c.has_v2.ensures ∙ trees in absurd cc) has;
  room = omega (arith, c.requires.room, has.buffer);
}

pub returns-then-count-eq0-clause-ended : goal.returns-then-count-eq0-clause-ended
returns-then-count-eq0-clause-ended g c = λ contents content has long. record {
  has = content_stays c.args.chunking (some_size c.args.chunking c.requires.cut) contents content c.args.self.now
      (λ trees. long ∙ c.if-count-eq0.true) has;
  room = omega (arith, c.requires.room, has.buffer);
}

pub returns-clause-ended : goal.returns-clause-ended
returns-clause-ended g c = λ contents content has long.
    let chunking = c.args.chunking in
    let some = some_size chunking c.requires.cut in
    let off = c.in_ok-cut_rest.ensures.cut chunking contents content some has in
    record {
      has = content_ends chunking some contents content c.cut_rest.new.self _
          (sym c.has_v2.ensures ∙ c.if-not-has_v2.false) (omega (arith, long, c.if-count-eq0.false)) off refl refl refl
          refl refl (c.zeros_between-self.ensures ∙ ap (zeros_between chunking.kind chunking.piece_length) (sym long));
      room = omega (arith, off.filled, some);
    }
