pub mod Streams
pub mod steps
