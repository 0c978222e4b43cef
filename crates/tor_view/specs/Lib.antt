pub mod Bitfield
pub mod FileBytes
pub mod Files
pub mod PieceBytes
pub mod Pieces
pub mod steps
