pub mod Paths
pub mod Fronts
pub mod Spelling
pub mod Beneath
pub mod Alike
pub mod Slashes
pub mod FirstNames
pub mod Marked
