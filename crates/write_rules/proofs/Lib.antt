pub mod Deleting
pub mod Writing
pub mod LastLength
