-- the entries can be cut
use Rattle.std.proofs.Common.{◌∙◌, arith, refl, subst, sym}
use Rattle.tor_tree.specs.declared.kinds.Kind.TheVariants.{V1}
use Rattle.tor_plan.specs.EntryList.{IsEntryList}
use Rattle.tor_tests_low.proofs.ListRows.{file_is, five, joined_row}
use Rattle.tor_tests_low.proofs.plan.entries.joined_plan.Goals as goal
use lib.Count.{ones}

pub of_entries-requires-clause-span : goal.of_entries-requires-clause-span
unfolding ones
of_entries-requires-clause-span g c = (refl, omega arith, omega arith)

pub of_entries-requires-clause-entries : goal.of_entries-requires-clause-entries
of_entries-requires-clause-entries g c =
    subst (IsEntryList V1 4)
    (sym (c.deref.ensures.value ∙ c.in_ok-entries.ensures.items
    ∙ five _ _ _ _ _ _ _ _ _ _ c.padding.ensures (file_is _ 2 c.file_entry.ensures)
    (file_is _ 0 c.file_entry-2.ensures) c.padding-2.ensures (file_is _ 1 c.file_entry-3.ensures)))
    (joined_row _ _ _)
