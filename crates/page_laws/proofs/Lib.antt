mod Values
mod Owned
mod Worlds
mod Rows
mod Operations
mod Flushes
mod Names
mod Fired
mod Steps
mod LivePages
pub mod Shared
