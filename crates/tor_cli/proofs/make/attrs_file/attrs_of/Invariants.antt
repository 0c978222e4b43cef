-- The letters are those by the last ones of the list.
use Rattle.std.proofs.Common.{◌≤◌, drop, length}
use Rattle.tor_cli.proofs.LetteredPaths.{ArePut}
use Rattle.tor_cli.proofs.make.attrs_file.attrs_of.Given as goal

abbrev pub invariant-named : goal.invariant-named
invariant-named l =
    record {
      within : l.left ≤ length l.named;
      put : ArePut l.paths (drop l.left l.named) l.attrs.items;
    }

abbrev pub decreases-named : goal.decreases-named
decreases-named l = l.left
