pub mod Words
pub mod Calls
pub mod ReplyText
pub mod EventLine
pub mod ToldText
