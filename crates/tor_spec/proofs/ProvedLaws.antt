-- The proofs of the laws of src/laws.rt, for the crates above.
pub use Rattle.tor_spec.proofs.EntryLengths.{lettered_lengths, padding_lengths, small_lengths}
pub use Rattle.tor_spec.proofs.LawfulTorrents.{torrents_are_lawful}
pub use Rattle.tor_spec.proofs.Lettered.{lettered_case, lettered_none, map_lettered, sum_lettered}
pub use Rattle.tor_spec.proofs.MadeTorrents.{made_torrents_are_valid, made_torrents_are_told}
pub use Rattle.tor_spec.proofs.OwnContents.{own_contents_verify_every_piece}
