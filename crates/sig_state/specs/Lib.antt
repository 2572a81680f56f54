pub mod Equality
pub mod Batches
