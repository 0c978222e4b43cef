-- One path rises, and its letters are those of the one file.
use Rattle.std.proofs.Common.{◌∷◌, [], true, ap, ◌∙◌}
use Rattle.tor_cli.proofs.LetteredPaths.{found_rise}
use Rattle.tor_cli.proofs.make.command.attr_of_one.Goals as goal

pub lettered_files-requires : goal.lettered_files-requires
lettered_files-requires c =
    found_rise c.args.name.now true c.in_ok-vec.field-0.items
    (c.in_ok-vec.ensures.items ∙ ap (λ path. path ∷ []) c.in_ok-path.ensures)
