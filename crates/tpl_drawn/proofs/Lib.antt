mod Numbered
mod Placed
mod Shaped
mod Compares
pub mod Shared
