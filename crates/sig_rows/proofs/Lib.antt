mod Keys
mod Kept
mod Moves
mod Puts
pub mod Shared
mod Unrefused
