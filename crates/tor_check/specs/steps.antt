pub mod Judged
pub mod Layers
pub mod Listed
pub mod PieceProofs
pub mod Sides
pub mod Views
