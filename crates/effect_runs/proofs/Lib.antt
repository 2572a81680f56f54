mod Names
mod Slots
mod Wanted
mod Asks
mod Still
mod Looks
mod Cells
mod Logged
pub mod Shared
