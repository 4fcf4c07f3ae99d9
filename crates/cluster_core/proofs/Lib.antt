pub mod Naming
pub mod Answering
pub mod Delivering
pub mod Reaching
