pub mod Trees
pub mod Ends
pub mod Steps
pub mod Rows
pub mod Teardowns
pub mod Sites
