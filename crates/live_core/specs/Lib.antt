pub mod Consistency
pub mod Doing
pub mod Parts
pub mod Views
