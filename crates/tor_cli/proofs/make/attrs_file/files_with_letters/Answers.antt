-- The letters are those of the paths, in their order.
use Rattle.std.proofs.Common.{map, sym, ◌∙◌, ap, subst}
use Rattle.std.specs.List.{zip}
use Rattle.tor_cli.specs.make.Attrs.{AreAmong, letters_in}
use Rattle.tor_cli.proofs.LetteredPaths.{zipped}
use Rattle.tor_cli.proofs.make.attrs_file.files_with_letters.Goals as goal

pub returns-in_default : goal.returns-in_default
returns-in_default c among =
    let none = rw c.in_default.is at c.in_ok-attrs.ensures in
    none (subst (λ paths. AreAmong paths c.args.named.now) (sym c.deref.ensures.value) among)

pub returns : goal.returns
returns c =
    let put = rw c.in-Some.is at c.in_ok-attrs.ensures in
    let there = put.0 ∙ ap (λ paths. map (letters_in c.args.named.now) paths) c.deref.ensures.value in (
      c.in_ok-files.ensures ∙ ap (λ attrs. zip c.args.paths.items attrs) there
          ∙ zipped (letters_in c.args.named.now) c.args.paths.items,
      subst (λ paths. AreAmong paths c.args.named.now) c.deref.ensures.value put.1,
    )
