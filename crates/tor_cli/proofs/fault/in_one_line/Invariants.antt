-- Of the line so far nothing is said.
use Rattle.tor_cli.proofs.fault.in_one_line.Given as goal

abbrev pub invariant-parts : goal.invariant-parts
invariant-parts l = Unit {0}
