pub mod Entries
pub mod Facts
pub mod Views
