pub mod Ways
pub mod Handlers
pub mod Examples
