mod Edited
mod Marks
mod AfterChange
mod Unmarked
pub mod Shared
