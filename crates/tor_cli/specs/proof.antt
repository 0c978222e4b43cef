pub mod ProofText
pub mod Proving
