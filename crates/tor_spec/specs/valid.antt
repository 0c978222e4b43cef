pub mod Parts
pub mod Heads
pub mod ListSide
pub mod TreeSide
pub mod Layers
pub mod SidesAgree
pub mod Conditions
pub mod View
