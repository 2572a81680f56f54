mod Acts
mod Refusals
mod Meant
mod Tabled
pub mod Shared
mod Sequences
mod Ordered
pub mod SharedActs
