pub mod KeyList
pub mod Commands
pub mod LocatedBlocks
