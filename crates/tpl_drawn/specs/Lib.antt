pub mod Marks
pub mod Addresses
pub mod Lines
pub mod Shown
pub mod Heads
pub mod Walks
pub mod Comparison
