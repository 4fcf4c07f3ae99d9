pub mod Copies
pub mod Orders
pub mod Behind
pub mod Leaders
pub mod Ends
pub mod Removals
