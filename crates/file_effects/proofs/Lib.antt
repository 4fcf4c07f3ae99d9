pub mod Effects
pub mod Effected
pub mod Replacing
pub mod Replacement
pub mod BlockChanges
pub mod Fileless
