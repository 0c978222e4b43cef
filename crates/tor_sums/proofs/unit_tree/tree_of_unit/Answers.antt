-- what was read is owed
use Rattle.std.proofs.Common.{◌∙◌, refl, sym}
use Rattle.tor_sums.specs.steps.Owing.{sums_of}
use Rattle.tor_sums.proofs.unit_tree.tree_of_unit.Goals as goal

pub read_unit-requires-clause-fresh : goal.read_unit-requires-clause-fresh
read_unit-requires-clause-fresh g c = (c.requires.owing.1.before, c.requires.owing.1.fresh)

pub returns-clause-owing : goal.returns-clause-owing
returns-clause-owing g c = λ owed owes.
    let plan = c.args.plan.now in
    let read = c.in-Ok.ensures.read owes.before owes.fresh in
    let long = read.long ∙ sym c.unit_length-count.ensures in (
      sums_of plan read.joined,
      record {
        reads = read.reads;
        are = read.are;
        trees = read.trees;
        joined = read.joined;
        long = read.long;
        same = read.same;
        is_own = refl;
      },
      c.in_ok-end_unit.ensures owed read.joined (record {
        before = owes.before;
        fresh = read.fresh;
        is_owed = owes.is_owed;
        whole = owes.whole;
        either = owes.either;
      }) long,
    )
