pub mod Digits
pub mod RightsText
