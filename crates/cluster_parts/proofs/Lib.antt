pub mod Tables
pub mod Gets
pub mod Laying
pub mod Finding
pub mod Commands
pub mod Rows
pub mod Keeping
