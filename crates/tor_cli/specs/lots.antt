pub mod Lots
pub mod PartWord
pub mod Planning
