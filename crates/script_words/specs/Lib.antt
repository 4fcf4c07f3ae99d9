pub mod Words
pub mod Values
pub mod LineForms
pub mod Blanks
