-- The proofs of the laws of src/laws.rt, for the crates above.
pub use Rattle.tor_meta.proofs.MadeIsValid.{what_is_made_is_valid}
