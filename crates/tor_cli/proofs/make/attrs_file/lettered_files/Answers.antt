-- Without a list none has letters.
use Rattle.std.proofs.Common.{ap, map, ◌∙◌}
use Rattle.tor_tree.specs.Letters.{no_letters}
use Rattle.tor_cli.proofs.LetteredPaths.{none_lettered}
use Rattle.tor_cli.proofs.make.attrs_file.lettered_files.Goals as goal

pub returns-in_default-clause-paths : goal.returns-in_default-clause-paths
returns-in_default-clause-paths c =
    let none = c.in_ok-attrs.ensures ∙ ap (map (λ path. no_letters)) c.deref.ensures.value in
    (none_lettered c.in_ok-paths_with_attrs.field-0.items c.in_ok-attrs.attrs.items c.args.paths.items none
    c.in_ok-paths_with_attrs.ensures).0

pub returns-in_default-clause-letters : goal.returns-in_default-clause-letters
returns-in_default-clause-letters c =
    let none = c.in_ok-attrs.ensures ∙ ap (map (λ path. no_letters)) c.deref.ensures.value in
    rw c.in_default.is
    (none_lettered c.in_ok-paths_with_attrs.field-0.items c.in_ok-attrs.attrs.items c.args.paths.items none
    c.in_ok-paths_with_attrs.ensures).1
