pub mod Hashes
pub mod Judge
pub mod Lots
