use Rattle.tor_check.proofs.Names.{length}
use Rattle.tor_check.proofs.LayerSteps.{few_hashes}
use Rattle.tor_check.proofs.layer_roots.is_other.Goals as goal

pub layer_root-requires-clause-small : goal.layer_root-requires-clause-small
layer_root-requires-clause-small c =
    few_hashes c.piece_roots_fit_a_layer.ensures.small c.args.piece_length c.args.file.now.length
    (length c.args.text.now) (length c.as_chunks.result.0.now) c.piece_level.result c.requires.piece_length
    c.requires.small c.requires.shaped c.as_chunks.ensures.front_len c.piece_level.ensures.value
