use Rattle.std.proofs.Common.{◌≡◌, ◌∙◌, ℕ, [], ap, sym, arith, refl}
use Rattle.std.proofs.lemmas.Bool.{le-leb}
use Rattle.tor_merkle.specs.Layer.{piece_layer}
use Rattle.tor_meta.proofs.sums.tree_of.Goals as goal

no_layer : (piece_length : ℕ) → piece_layer [] piece_length ≡ []
unfolding piece_layer
no_layer piece_length = rw (le-leb 0 piece_length (omega arith)) refl

pub returns-in-None-clause-layer : goal.returns-in-None-clause-layer
returns-in-None-clause-layer c =
    c.new.ensures.items ∙ sym (no_layer c.args.tree.piece_length)
    ∙ ap (λ bytes. piece_layer bytes c.args.tree.piece_length) (sym (c.in-None.ensures.empty.0 refl))
