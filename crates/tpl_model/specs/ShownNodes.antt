pub mod Addresses
pub mod Shapes
