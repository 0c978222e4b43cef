pub mod Piece
pub mod Reserved
pub mod Entries
pub mod Content
pub mod Feeding
pub mod steps
