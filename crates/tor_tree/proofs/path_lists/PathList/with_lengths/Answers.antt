use Rattle.tor_tree.proofs.Cited.{◌≡◌, inl, inr, sym, ◌∙◌, err_from_is_err_and, lengths_fault, lengths_of}
use Rattle.tor_tree.proofs.IndexedPaths.{lengths_indexed, indices_within, same_paths}
use Rattle.tor_tree.proofs.path_lists.PathList.with_lengths.Goals as goal

pub split-requires : goal.split-requires
split-requires c =
    indices_within c.args.lengths.now c.self.inside.entries.items c.self.invariant.indices
    (rw c.self.view_is c.requires.one_each)

pub without_letters-requires-clause-in_order : goal.without_letters-requires-clause-in_order
without_letters-requires-clause-in_order c =
    rw (c.in_ok-files.ensures.files, same_paths c.args.lengths.now c.self.inside.entries.items)
    c.self.invariant.in_order

pub without_letters-requires-clause-judged : goal.without_letters-requires-clause-judged
without_letters-requires-clause-judged c =
    rw (c.in_ok-files.ensures.files, same_paths c.args.lengths.now c.self.inside.entries.items)
    c.self.invariant.faultless

pub returns-in_err-without_letters-clause-refused : goal.returns-in_err-without_letters-clause-refused
returns-in_err-without_letters-clause-refused c =
    let judged : lengths_fault (lengths_of c.in_ok-files.files.items) ≡ lengths_fault c.args.lengths.now =
    rw c.in_ok-files.ensures.files (lengths_indexed c.args.lengths.now c.self.inside.entries.items
    c.self.invariant.indices (rw c.self.view_is c.requires.one_each)) in
    let told = c.from_residual-in_err-without_letters.ensures.1 in
    let given = err_from_is_err_and c.from_residual-in_err-without_letters.result told in
    rw (given.1, given.2) (elim c.in_err-without_letters.ensures.refused [
      | inl lengths ↦ inl (sym judged ∙ lengths)
      | inr memory ↦ inr memory
    ])

pub returns-clause-accepted : goal.returns-clause-accepted
returns-clause-accepted c =
    let judged : lengths_fault (lengths_of c.in_ok-files.files.items) ≡ lengths_fault c.args.lengths.now =
    rw c.in_ok-files.ensures.files (lengths_indexed c.args.lengths.now c.self.inside.entries.items
    c.self.invariant.indices (rw c.self.view_is c.requires.one_each)) in
    sym judged ∙ c.in_ok-without_letters.ensures.accepted
