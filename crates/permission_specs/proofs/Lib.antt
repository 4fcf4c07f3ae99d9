pub mod SpecKeys
pub mod SpecTexts
pub mod SpecSpellings
pub mod SpecFields
