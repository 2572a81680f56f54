mod Waits
mod Ways
pub mod Shared
