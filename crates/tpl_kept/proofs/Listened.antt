pub mod Sequences
pub mod Rowed
pub mod Reuse
pub mod Splits
pub mod Slots
