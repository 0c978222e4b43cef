use Rattle.tor_tree.proofs.Cited.{inl, inr, sym, ◌∙◌, arith, IsPermutation, IfOk-weaker, IfErr-weaker}
use Rattle.tor_tree.proofs.ListFaults.{fault_of_lengths, fault_of_paths}
use Rattle.tor_tree.proofs.Permuted.{list_fault-permutation, permutation-written_back}
use Rattle.std.proofs.lemmas.Grind.{common_steps}
use Rattle.tor_tree.proofs.lists.FileList.build.Goals as goal

pub returns-in-Some-clause-refused : goal.returns-in-Some-clause-refused
returns-in-Some-clause-refused c =
    let moved : IsPermutation c.args.files.items c.deref.result.now =
    permutation-written_back c.args.files.len _ _ _ _
    (omega arith) c.as_mut_slice.ensures.value c.sort.ensures.permutation c.deref.ensures.value in
    inl (list_fault-permutation _ _ moved
    ∙ fault_of_paths c.deref.result.now c.in-Some.fault (sym c.in-Some.ensures.value))

pub returns-clause-accepted : goal.returns-clause-accepted
returns-clause-accepted c =
    let moved : IsPermutation c.args.files.items c.deref.result.now =
    permutation-written_back c.args.files.len _ _ _ _
    (omega arith) c.as_mut_slice.ensures.value c.sort.ensures.permutation c.deref.ensures.value in
    IfOk-weaker c.without_letters.result _ _
    (λ list accepted. list_fault-permutation _ _ moved
    ∙ fault_of_lengths c.deref.result.now (sym c.in_default.ensures.value) ∙ rw c.deref.ensures.value accepted)
    c.without_letters.ensures.accepted

pub returns-clause-refused : goal.returns-clause-refused
returns-clause-refused c =
    let moved : IsPermutation c.args.files.items c.deref.result.now =
    permutation-written_back c.args.files.len _ _ _ _
    (omega arith) c.as_mut_slice.ensures.value c.sort.ensures.permutation c.deref.ensures.value in
    IfErr-weaker c.without_letters.result _ _
    (λ fault refused. elim refused [
      | inl lengths ↦
          inl (list_fault-permutation _ _ moved
          ∙ fault_of_lengths c.deref.result.now (sym c.in_default.ensures.value) ∙ rw c.deref.ensures.value lengths)
      | inr memory ↦ inr memory
    ])
    c.without_letters.ensures.refused

pub returns-clause-same_files : goal.returns-clause-same_files
returns-clause-same_files c = grind (arith, common_steps)

pub returns-then-is_empty-clause-refused : goal.returns-then-is_empty-clause-refused
returns-then-is_empty-clause-refused c = grind (arith, common_steps)

pub paths_fault-requires-clause-sorted : goal.paths_fault-requires-clause-sorted
paths_fault-requires-clause-sorted c = grind (arith, common_steps)
