pub mod Relations
pub mod Indexing
pub mod Busy
pub mod Written
