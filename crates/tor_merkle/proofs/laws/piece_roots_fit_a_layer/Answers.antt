use Rattle.tor_merkle.proofs.ProvedLaws.{piece_levels_are_low, some_piece_root, few_piece_roots}
use Rattle.tor_merkle.proofs.laws.piece_roots_fit_a_layer.Goals as goal

pub returns : goal.returns
returns c = record { level = piece_levels_are_low; some = some_piece_root; small = few_piece_roots }
