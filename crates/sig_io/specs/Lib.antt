pub mod Counts
pub mod MemoryStates
