use Rattle.std.proofs.Common.{ap, replicate, sym, ◌∙◌}
use Rattle.std.specs.List.{list_all}
use Rattle.tor_engine.specs.declared.pieces.piece_hash.FoundPiece.TheVariants.{Missing}
use Rattle.tor_engine.specs.steps.FoundRow.{is_missing}
use Rattle.tor_engine.proofs.FoundRows.{all_missing}
use Rattle.tor_engine.proofs.pieces.found_row.FoundRow.of.Goals as goal

pub returns-then-are_missing : goal.returns-then-are_missing
returns-then-are_missing c =
    c.missing.ensures
    ∙ ap (λ n. replicate n Missing) (c.len.ensures ∙ c.args.found.ok.0)
    ∙ all_missing c.args.found.items
    (ap (list_all is_missing) (sym c.deref.ensures.value) ∙ sym c.are_missing.ensures ∙ c.if-are_missing.true)
