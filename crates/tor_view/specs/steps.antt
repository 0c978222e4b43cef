pub mod FileBytes
pub mod Packed
pub mod Spans
