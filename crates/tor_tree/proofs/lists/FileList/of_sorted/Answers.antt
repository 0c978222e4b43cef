use Rattle.tor_tree.proofs.Cited.{◌≡◌, false, sym, ◌∙◌, refl, lengths_of, lengths_too_large}
use Rattle.tor_tree.proofs.ListFaults.{fault_of_lengths}
use Rattle.tor_tree.proofs.lists.FileList.of_sorted.Goals as goal

pub invariant_of-result : goal.invariant_of-result
invariant_of-result c =
    let small : lengths_too_large (lengths_of c.args.files.items) ≡ false =
    rw (← c.deref.ensures.value) (sym c.is_too_large.ensures ∙ c.if-is_too_large.false) in
    record {
      lawful = record {
        faultless = fault_of_lengths c.args.files.items c.requires.judged ∙ rw small refl;
        in_order = c.requires.in_order;
        named = rw (← c.deref-2.ensures.value) c.each_is_path.ensures;
      };
      one_each = c.requires.one_each;
    }
