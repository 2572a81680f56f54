mod Forms
mod Steps
mod Lists
mod Survivors
mod Taken
mod Found
pub mod Shared
mod Walks
mod Splits
pub mod SharedSites
