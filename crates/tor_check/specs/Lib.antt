pub mod Refusals
pub mod Valid
pub mod ValidViews
pub mod PieceProofs
pub mod steps
