-- the files so far are as long as was told
use Rattle.std.proofs.Common.{◌≡◌, ◌≤◌, None, length, take}
use Rattle.std.specs.List.{enumerate_from}
use Rattle.tor_source.specs.Source.{SourceFacts}
use Rattle.tor_sums.specs.Fault.{first_of}
use Rattle.tor_engine.specs.steps.Asked.{again_fault}
use Rattle.tor_engine.proofs.pieces.asked.expect_each.Given as goal

abbrev pub invariant-files : goal.invariant-files
invariant-files g l = (l.file ≤ length l.told)
    × ((facts : SourceFacts g.row.S-Fault.Denot) → g.S.Source.is_steady l.source facts →
    first_of (again_fault facts) (take l.file (enumerate_from 0 l.told)) ≡ None)
