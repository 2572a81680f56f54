pub mod SharedPasts
pub mod SharedSearches
pub mod SharedLinks
mod Marks
mod Recorded
