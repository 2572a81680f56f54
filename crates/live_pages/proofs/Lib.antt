mod Pages
mod Settling
mod Apart
mod Drops
pub mod Shared
mod Stood
mod News
