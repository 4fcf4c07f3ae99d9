pub mod Telling
pub mod Printed
