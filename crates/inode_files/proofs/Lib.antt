pub mod SeenRows
pub mod Places
pub mod Counts
pub mod SeenParts
pub mod KeptChanges
pub mod Closings
