pub mod Judged
pub mod NotRefused
pub mod Pieces
pub mod Reported
