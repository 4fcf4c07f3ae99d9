pub mod Expiring
pub mod SoughtFiles
pub mod FinishedFiles
pub mod TakenFiles
pub mod ClosedFiles
pub mod Recovering
pub mod Reopening
