pub mod Marks
pub mod Lookups
pub mod KeptNodes
pub mod Arrivals
pub mod Children
pub mod Operations
pub mod Updates
