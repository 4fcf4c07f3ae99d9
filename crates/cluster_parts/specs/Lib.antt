pub mod Nodes
pub mod Leaders
pub mod Sent
pub mod Carried
pub mod Kept
pub mod Noted
