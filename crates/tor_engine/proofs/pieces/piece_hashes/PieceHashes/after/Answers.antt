use Rattle.std.proofs.Common.{ap, ap₂, map, ◌++◌, ◌∙◌}
use Rattle.std.specs.List.{flat_map}
use Rattle.tor_engine.specs.steps.Pieces.{hashes_in}
use Rattle.tor_engine.specs.steps.UnitHashes.{hashes_of_unit}
use Rattle.tor_engine.proofs.FoundRows.{missing_hashes}
use Rattle.tor_engine.proofs.pieces.piece_hashes.PieceHashes.after.Goals as goal

pub returns : goal.returns
returns c =
    let later = c.hashes.inside.units.items in
    ap (flat_map hashes_of_unit)
    (c.in_ok-append.ensures.joined ∙ ap (λ units. units ++ later) c.in_ok-units.ensures.items)
    ∙ ap₂ (λ xs ys. xs ++ ys) (ap (map hashes_in) c.missing.ensures ∙ missing_hashes c.args.missing) c.hashes.view_is
