pub mod Judged
pub mod JudgedBlocks
pub mod JudgedAppends
