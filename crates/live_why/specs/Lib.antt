pub mod Views
pub mod Marking
