use Rattle.std.proofs.Common.{◌≡◌, None, sym, refl}
use Rattle.tor_source.specs.Sources.{first_fault, mem_facts}
use Rattle.tor_source.proofs.failing.FailSourceSource.length.Goals as goal

pub returns-in-None-clause-steady : goal.returns-in-None-clause-steady
returns-in-None-clause-steady c facts is =
    let none : first_fault c.self.inside.faults.items c.args.file None ≡ None =
    rw (← c.deref.ensures.value) (sym c.in-None.ensures) in
    rw (is, ← c.self.view_is, none) (c.length.ensures.steady (mem_facts c.self.inside.files) refl)
