mod Blocks
mod Cuts
mod Fronts
mod Reader
mod Short
pub mod Shared
