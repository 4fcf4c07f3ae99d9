pub mod Numbers
pub mod Reporting
pub mod Ascending
pub mod Taking
pub mod Waiting
mod Searches
pub mod Standing
pub mod Entries
