pub mod Sets
pub mod Attributes
pub mod Moves
pub mod Spelled
