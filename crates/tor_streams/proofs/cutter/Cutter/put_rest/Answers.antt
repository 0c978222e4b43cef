-- all was put, and the zeros after it where there is a tail
use Rattle.std.proofs.Common.{◌≡◌, ℕ, List, [], cond, ap, subst, sym, ◌∙◌}
use Rattle.tor_lane.specs.declared.chunk.Chunk.{Chunk}
use Rattle.tor_streams.specs.steps.Cuts.{HasPut, PutsHeld}
use Rattle.tor_streams.proofs.CutEnds.{all_end}
use Rattle.tor_streams.proofs.Cutting.{some_size}
use Rattle.tor_streams.proofs.cutter.Cutter.put_rest.Goals as goal
use Rattle.tor_streams.proofs.cutter.Cutter.put_rest.Goals.{then-chunking, else-chunking}

pub returns-clause-put : goal.returns-clause-put
returns-clause-put g c = λ contents has.
    let chunking = c.args.chunking in
    let some = some_size chunking c.requires.cut in
    let old = c.cut_rest.new.self in
    let zeros : c.if-chunking.zeros ≡ cond chunking.tail old.zeros 0 = elim c.if-chunking.branch [
      | then-chunking w ↦ w.zeros-is ∙ sym (ap (λ b. cond b old.zeros 0) w.if-chunking.true)
      | else-chunking w ↦ w.zeros-is ∙ sym (ap (λ b. cond b old.zeros 0) w.if-chunking.false)
    ] in
    let all = all_end chunking some contents old c.put_held.new.self
    (c.in_ok-cut_rest.ensures.cut chunking contents [] some has)
    (subst (λ (n : ℕ). PutsHeld n old c.put_held.new.self) zeros c.put_held.ensures.put) in
    subst (λ (chunks : List Chunk). HasPut chunking contents chunks) (sym c.flush.ensures.put) all
