pub mod Tops
pub mod Pieces
pub mod Blocks
pub mod Node
pub mod Plain
