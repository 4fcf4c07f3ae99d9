pub mod Endings
pub mod Runs
pub mod Served
pub mod Told
pub mod Growing
pub mod Writing
