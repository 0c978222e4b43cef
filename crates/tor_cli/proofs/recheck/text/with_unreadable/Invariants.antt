-- What the faults that are left make of the files.
use Rattle.std.proofs.Common.{◌≡◌, drop, map}
use Rattle.tor_view.specs.declared.files.FileState.TheVariants.{Unreadable}
use Rattle.tor_cli.specs.recheck.FoundFiles.{with_state}
use Rattle.tor_cli.proofs.recheck.text.with_unreadable.Given as goal

abbrev pub invariant-faults : goal.invariant-faults
invariant-faults g l =
    with_state Unreadable (map (λ fault. fault.file) l.fn.faults) l.fn.files.items
    ≡ with_state Unreadable (map (λ fault. fault.file) (drop l.fault-index l.faults)) l.files.items
