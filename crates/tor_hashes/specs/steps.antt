pub mod Lanes
pub mod Shuffles
