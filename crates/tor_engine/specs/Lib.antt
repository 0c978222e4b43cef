pub mod PieceFault
pub mod PieceHashes
pub mod Readable
pub mod Rows
pub mod Shares
pub mod There
pub mod steps
