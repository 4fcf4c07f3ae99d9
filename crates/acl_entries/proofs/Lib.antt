pub mod Everyone
pub mod Searches
pub mod Printing
