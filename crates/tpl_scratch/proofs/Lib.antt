mod Asks
mod Results
mod Unknowns
mod Numbers
mod Parts
pub mod Shared
