pub mod Stated
pub mod Links
pub mod Stops
