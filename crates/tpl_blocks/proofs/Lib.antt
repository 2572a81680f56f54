mod Levels
mod Stacks
pub mod Shared
