pub mod Tracker
pub mod steps
