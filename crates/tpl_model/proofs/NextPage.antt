pub mod Children
pub mod Marks
pub mod Lookups
pub mod Arrivals
pub mod Renewed
pub mod Edits
pub mod KeptNodes
