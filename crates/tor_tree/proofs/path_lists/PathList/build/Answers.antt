use Rattle.tor_tree.proofs.Cited.{inl, sym, ◌∙◌, arith, eqb-false}
use Rattle.tor_tree.proofs.IndexedPaths.{indexed_count, indexed_fault, indexed_paths}
use Rattle.tor_tree.proofs.path_lists.PathList.build.Goals as goal

pub paths_fault-requires-clause-some : goal.paths_fault-requires-clause-some
paths_fault-requires-clause-some c =
    rw c.deref.ensures.value (omega (
      arith,
      indexed_count c.args.paths.items c.in_ok-entries.entries.items
          c.in_ok-entries.ensures.same,
      eqb-false _ _ (sym c.is_empty.ensures ∙ c.if-is_empty.false),
    ))

pub returns-in-Some-clause-refused : goal.returns-in-Some-clause-refused
returns-in-Some-clause-refused c =
    inl (indexed_fault c.args.paths.items c.in_ok-entries.entries.items c.in_ok-entries.ensures.same
    ∙ sym (rw c.deref.ensures.value at c.in-Some.ensures.value))

pub invariant_of-result : goal.invariant_of-result
invariant_of-result c = record {
  faultless = sym (rw c.deref.ensures.value at c.in_default.ensures.value);
  in_order = rw c.deref.ensures.value at c.in_default.ensures.rising;
  named = rw c.deref-2.ensures.value at c.each_is_path.ensures;
  indices = (indexed_paths c.args.paths.items c.in_ok-entries.entries.items c.in_ok-entries.ensures.same).indices;
}

pub returns-clause-indexed : goal.returns-clause-indexed
returns-clause-indexed c =
    indexed_paths c.args.paths.items c.in_ok-entries.entries.items c.in_ok-entries.ensures.same

pub returns-clause-accepted : goal.returns-clause-accepted
returns-clause-accepted c =
    indexed_fault c.args.paths.items c.in_ok-entries.entries.items c.in_ok-entries.ensures.same
    ∙ sym (rw c.deref.ensures.value at c.in_default.ensures.value)

pub returns-clause-lawful : goal.returns-clause-lawful
returns-clause-lawful c = invariant_of-result c
