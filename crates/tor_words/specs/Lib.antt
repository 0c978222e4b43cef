pub mod Beside
pub mod Bounds
pub mod CommandLine
pub mod Rules
