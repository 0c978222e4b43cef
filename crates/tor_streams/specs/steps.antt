pub mod ChunkNodes
pub mod Cuts
pub mod Fed
pub mod OwedChunks
pub mod StreamWorkers
