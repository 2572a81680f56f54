mod Told
mod Worlds
mod Batched
mod Undone
mod Kept
pub mod Shared
