use Rattle.tor_tree.proofs.Cited.{inl, map, sym, ap, ◌∙◌, arith, IsPermutation, IfOk-weaker}
use Rattle.tor_tree.proofs.Cited.{IfErr-weaker, ap₂, files_with_attrs, paths_fault, subst, zip}
use Rattle.tor_tree.proofs.LetteredLists.{entry_of, file_in, lettered_of, letters_in, paths_apart, same_fault}
use Rattle.tor_tree.proofs.LetteredLists.{same_files}
use Rattle.tor_tree.proofs.ListFaults.{fault_of_lengths, fault_of_paths}
use Rattle.tor_tree.proofs.Permuted.{permutation-written_back}
use Rattle.std.proofs.lemmas.Grind.{common_steps}
use Rattle.tor_tree.proofs.lists.FileList.build_with.Goals as goal

pub returns-in-Some-clause-refused : goal.returns-in-Some-clause-refused
returns-in-Some-clause-refused c =
    let moved : IsPermutation (map entry_of c.args.files.items) c.deref.result.now =
    rw (← c.in_ok-entries.ensures) (permutation-written_back c.in_ok-entries.entries.len _ _ _ _
    (omega arith) c.as_mut_slice.ensures.value c.sort.ensures.permutation c.deref.ensures.value) in
    inl (same_fault c.args.files.items c.deref.result.now moved
    ∙ fault_of_paths (map file_in c.deref.result.now) c.in-Some.fault
    (ap paths_fault (paths_apart c.deref.result.now) ∙ sym c.in-Some.ensures.value))

pub of_sorted-requires-clause-in_order : goal.of_sorted-requires-clause-in_order
of_sorted-requires-clause-in_order c =
    rw (c.in_ok-files.ensures.files, paths_apart) (rw c.deref.ensures.value at c.in_default.ensures.rising)

pub of_sorted-requires-clause-judged : goal.of_sorted-requires-clause-judged
of_sorted-requires-clause-judged c =
    rw (c.in_ok-files.ensures.files, paths_apart) (sym (rw c.deref.ensures.value at c.in_default.ensures.value))

pub returns-clause-same_files : goal.returns-clause-same_files
returns-clause-same_files c =
    let moved : IsPermutation (map entry_of c.args.files.items) c.deref.result.now =
    rw (← c.in_ok-entries.ensures) (permutation-written_back c.in_ok-entries.entries.len _ _ _ _
    (omega arith) c.as_mut_slice.ensures.value c.sort.ensures.permutation c.deref.ensures.value) in
    let apart = ap₂ zip (c.in_ok-files.ensures.files ∙ ap (map file_in) (sym c.deref.ensures.value))
    (c.in_ok-files.ensures.attrs ∙ ap (map letters_in) (sym c.deref.ensures.value)) in
    let whole = same_files c.args.files.items c.deref.result.now moved in
    IfOk-weaker c.of_sorted.result _ _
    (λ list same. subst (IsPermutation (map lettered_of c.args.files.items))
    (sym (ap files_with_attrs same ∙ apart)) whole)
    c.of_sorted.ensures.same

pub returns-clause-accepted : goal.returns-clause-accepted
returns-clause-accepted c =
    let moved : IsPermutation (map entry_of c.args.files.items) c.deref.result.now =
    rw (← c.in_ok-entries.ensures) (permutation-written_back c.in_ok-entries.entries.len _ _ _ _
    (omega arith) c.as_mut_slice.ensures.value c.sort.ensures.permutation c.deref.ensures.value) in
    let judged = ap paths_fault (paths_apart c.deref.result.now) ∙ sym c.in_default.ensures.value in
    let apart = rw (← c.deref.ensures.value) at c.in_ok-files.ensures.files in
    IfOk-weaker c.of_sorted.result _ _
    (λ list accepted. same_fault c.args.files.items c.deref.result.now moved
    ∙ fault_of_lengths (map file_in c.deref.result.now) judged ∙ rw apart at accepted)
    c.of_sorted.ensures.accepted

pub returns-clause-refused : goal.returns-clause-refused
returns-clause-refused c =
    let moved : IsPermutation (map entry_of c.args.files.items) c.deref.result.now =
    rw (← c.in_ok-entries.ensures) (permutation-written_back c.in_ok-entries.entries.len _ _ _ _
    (omega arith) c.as_mut_slice.ensures.value c.sort.ensures.permutation c.deref.ensures.value) in
    let judged = ap paths_fault (paths_apart c.deref.result.now) ∙ sym c.in_default.ensures.value in
    let apart = rw (← c.deref.ensures.value) at c.in_ok-files.ensures.files in
    IfErr-weaker c.of_sorted.result _ _
    (λ fault refused. inl (same_fault c.args.files.items c.deref.result.now moved
    ∙ fault_of_lengths (map file_in c.deref.result.now) judged ∙ rw apart at refused))
    c.of_sorted.ensures.refused

pub paths_fault-requires-clause-some : goal.paths_fault-requires-clause-some
paths_fault-requires-clause-some c = grind (arith, common_steps)

pub of_sorted-requires-clause-one_each : goal.of_sorted-requires-clause-one_each
of_sorted-requires-clause-one_each c = grind (arith, common_steps)

pub returns-then-is_empty-clause-refused : goal.returns-then-is_empty-clause-refused
returns-then-is_empty-clause-refused c = grind (arith, common_steps)

pub paths_fault-requires-clause-sorted : goal.paths_fault-requires-clause-sorted
paths_fault-requires-clause-sorted c = grind (arith, common_steps)
