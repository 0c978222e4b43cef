-- the next file, and the end of either list
use Rattle.std.proofs.Common.{sym, ◌∙◌}
use Rattle.tor_sums.proofs.Change.{change_differs, change_ends, change_next, change_short}
use Rattle.tor_engine.proofs.lengths.first_change.Goals as goal

pub returns-in-Some-2 : goal.returns-in-Some-2
returns-in-Some-2 c =
    let there = c.in-Some.ensures.lookup.3 in
    sym (change_differs c.args.told.now c.args.planned.now c.files.file c.files-test.true there.0
    (rw (sym (there.1 0)) c.if-one-other.false)) ∙ c.files.invariant

pub returns-in-None : goal.returns-in-None
returns-in-None c =
    sym (change_short c.args.told.now c.args.planned.now c.files.file c.files-test.true c.in-None.ensures.lookup.3)
    ∙ c.files.invariant

pub files-preserved : goal.files-preserved
files-preserved c =
    let there = c.in-Some.ensures.lookup.3 in
    sym (change_next c.args.told.now c.args.planned.now c.files.file c.files-test.true there.0
    (rw (sym (there.1 0)) c.if-one-other.true)) ∙ c.files.invariant

pub returns : goal.returns
returns c = sym (change_ends c.args.told.now c.args.planned.now c.files.file c.files-test.false) ∙ c.files.invariant
