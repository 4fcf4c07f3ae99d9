pub mod Blanks
pub mod Forming
pub mod Groups
pub mod Returns
pub mod Marks
