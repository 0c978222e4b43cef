-- The laws of `src/laws.rt`, for proofs that cite them, and that whatever the hashes are, each file has its root and
-- its layer; that lots begin one after another; and what a list is that is joined as its parts come.
pub use Rattle.tor_parts.proofs.DealtUnits.{all_dealt as dealt_units_are_all, balanced as lots_are_balanced}
pub use Rattle.tor_parts.proofs.DealtUnits.{by_bytes as units_are_dealt_by_bytes}
pub use Rattle.tor_parts.proofs.LotsJoined.{joined as rows_are_joined}
pub use Rattle.tor_parts.proofs.RootsThere.{layers_there, roots_there}
pub use Rattle.tor_parts.proofs.OwnPieces.{all_pieces as rows_have_all_pieces}
pub use Rattle.tor_parts.proofs.DealtUnits.{cut_grows as lots_begin_in_order, cut_within as lots_begin_within}
pub use Rattle.tor_parts.proofs.OneLot.{one_lot as bytes_are_of_one_lot}
pub use Rattle.tor_parts.proofs.FlatMaps.{joined_more}
