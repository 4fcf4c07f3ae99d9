pub mod Planned
pub mod InTurn
pub mod Reporting
