pub mod Tables
pub mod Lookups
pub mod Newest
pub mod Deciding
pub mod Steps
pub mod Stamped
