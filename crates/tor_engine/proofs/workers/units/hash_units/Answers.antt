-- the units' hashes are as many as the units
use Rattle.std.proofs.Common.{ℕ, List, ap, length, subst, sym, ◌∙◌}
use Rattle.std.proofs.lemmas.List.{length-map}
use Rattle.tor_plan.specs.Forest.{AreRuns}
use Rattle.tor_plan.specs.declared.forests.Run.{Run}
use Rattle.tor_engine.proofs.Each.{each_length}
use Rattle.tor_engine.proofs.workers.units.hash_units.Goals as goal

pub roots_of_trees-requires : goal.roots_of_trees-requires
roots_of_trees-requires g c =
    let w = g.W.UnitWork in
    let work = c.args.work.now in
    let count = each_length (w.sums_up work) c.args.units.now _ c.in-Ok.ensures.summed
    ∙ ap length (sym c.deref.ensures.value) ∙ sym (length-map c.deref.result.now (w.hash_in work))
    ∙ ap length (sym (c.deref-in-Halves-2.ensures.value ∙ c.in_ok-hashes-in-Halves.ensures)) in
    subst (λ (n : ℕ). AreRuns n 0 c.deref-in-Halves.result.now) count
    (subst (λ (runs : List Run). AreRuns (length c.args.units.now) 0 runs) (sym c.deref-in-Halves.ensures.value)
    c.requires.runs)
