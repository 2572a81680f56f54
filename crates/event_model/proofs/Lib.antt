mod Ways
mod Lines
pub mod Shared
