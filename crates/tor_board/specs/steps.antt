pub mod Row
pub mod Climbing
pub mod Merging
