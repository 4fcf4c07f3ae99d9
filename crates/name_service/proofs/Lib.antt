pub mod Counting
pub mod Closing
pub mod Gaining
pub mod Threads
pub mod Turns
pub mod Placing
pub mod Answering
pub mod Having
