-- The list is the one that was read.
use Rattle.std.proofs.Common.{sym, subst}
use Rattle.tor_cli.specs.make.Attrs.{AreAmong}
use Rattle.tor_cli.proofs.LetteredPaths.{lettered_by}
use Rattle.tor_cli.proofs.make.attrs_file.lettered_by.Goals as goal

pub returns-in-Some-2-clause-paths : goal.returns-in-Some-2-clause-paths
returns-in-Some-2-clause-paths c =
    let (are, spelled) = rw c.in-Some.is at c.in_ok-named.ensures.written in
    let found = rw (c.in-Some-2.is, c.deref.ensures.value) at c.in_ok-files.ensures in
    (lettered_by c.args.bytes.now c.in-Some.named.items c.in-Some-2.files.items c.args.paths.items are spelled found.1
    found.0).0

pub returns-in-Some-2-clause-letters : goal.returns-in-Some-2-clause-letters
returns-in-Some-2-clause-letters c =
    let (are, spelled) = rw c.in-Some.is at c.in_ok-named.ensures.written in
    let found = rw (c.in-Some-2.is, c.deref.ensures.value) at c.in_ok-files.ensures in
    (lettered_by c.args.bytes.now c.in-Some.named.items c.in-Some-2.files.items c.args.paths.items are spelled found.1
    found.0).1

pub returns-clause-stopped : goal.returns-clause-stopped
returns-clause-stopped c files same by =
    let none = rw (c.in-None.is, c.deref.ensures.value) at c.in_ok-files.ensures in
    let read = rw c.in-Some.is at (c.in_ok-named.ensures.read by.named by.are by.spelled) in
    none (subst (AreAmong c.args.paths.items) (sym read)
    (subst (λ paths. AreAmong paths by.named) same by.among))
