pub mod Wholes
pub mod Costs
pub mod Stores
pub mod Signals
pub mod Answers
