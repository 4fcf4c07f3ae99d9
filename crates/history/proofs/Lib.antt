pub mod Writers
pub mod Unchanged
pub mod Counting
pub mod Apart
pub mod OpenFiles
pub mod Granted
