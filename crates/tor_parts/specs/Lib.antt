pub mod Dealing
pub mod JoinedRows
pub mod Joining
pub mod LotCounts
pub mod LotText
pub mod OwnFiles
pub mod steps
