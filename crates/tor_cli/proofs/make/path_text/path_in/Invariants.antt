-- The names are the parts so far, none of which has a fault.
use Rattle.std.proofs.Common.{◌≡◌, ◌++◌, length}
use Rattle.tor_cli.specs.make.PathsText.{names_fault, names_in}
use Rattle.tor_cli.proofs.make.path_text.path_in.Given as goal

abbrev pub invariant-names : goal.invariant-names
invariant-names l =
    record {
      parts : names_in l.text ≡ l.names.items ++ names_in l.rest;
      faultless : names_fault (names_in l.text) ≡ names_fault (names_in l.rest);
    }

abbrev pub decreases-names : goal.decreases-names
decreases-names l = length l.rest
