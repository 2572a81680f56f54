pub mod Codes
pub mod Equations
