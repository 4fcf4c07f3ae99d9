pub mod Stays
pub mod Ample
pub mod Covering
