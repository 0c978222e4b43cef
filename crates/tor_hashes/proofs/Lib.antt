pub mod Lanes
pub mod PaddingSha1
pub mod PaddingSha256
pub mod Ends
pub mod Shuffles
