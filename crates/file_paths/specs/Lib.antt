pub mod Name
pub mod Path
pub mod PathOrder
pub mod Marks
