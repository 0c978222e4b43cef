pub mod Block
pub mod Subtree
pub mod Layer
pub mod PieceHash
pub mod Stack
pub mod Feeding
pub mod Proof
pub mod steps
