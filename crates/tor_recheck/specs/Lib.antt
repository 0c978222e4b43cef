pub mod Findings
pub mod Lots
pub mod Readable
pub mod Recheck
pub mod steps
