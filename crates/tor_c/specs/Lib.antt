pub mod Numbers
pub mod Proofs
pub mod Reports
pub mod Sinks
pub mod steps
