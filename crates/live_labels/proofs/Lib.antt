mod Survivors
mod Told
mod Noted
pub mod Shared
