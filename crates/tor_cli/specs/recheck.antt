pub mod BadBytes
pub mod Extra
pub mod FoundFiles
pub mod LotRecheck
pub mod Recheck
pub mod Whereabouts
