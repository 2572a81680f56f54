mod Listened
mod Made
mod Renewals
pub mod Shared
