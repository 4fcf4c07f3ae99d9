pub mod Texts
pub mod Numbers
pub mod ShortTexts
pub mod Cuts
pub mod Words
pub mod Filled
