pub mod Joined
pub mod Whole
pub mod UnitCut
