-- the list has one file, and its letters
use Rattle.std.proofs.Common.{◌∷◌, [], ap, ◌∙◌, length, refl, sym}
use Rattle.tor_meta.proofs.OneFile.{only_one}
use Rattle.tor_meta.proofs.fed.making.list_of_one.Goals as goal

pub with_attrs-requires : goal.with_attrs-requires
with_attrs-requires c =
    let one = only_one (c.args.name.now ∷ [], c.args.length) c.in-Ok.list.files
    (rw (c.in_ok-vec.ensures.items, c.in_ok-path.ensures) at c.in-Ok.ensures.same_files) in
    record { one_each = ap length c.in_ok-vec-in-Ok.ensures.items ∙ sym (ap length one) }

pub returns-in_ok-vec-in-Ok-clause-list : goal.returns-in_ok-vec-in-Ok-clause-list
returns-in_ok-vec-in-Ok-clause-list c =
    let one = only_one (c.args.name.now ∷ [], c.args.length) c.in-Ok.list.files
    (rw (c.in_ok-vec.ensures.items, c.in_ok-path.ensures) at c.in-Ok.ensures.same_files) in
    c.with_attrs.ensures ∙ rw (one, c.in_ok-vec-in-Ok.ensures.items) refl
