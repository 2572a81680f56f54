mod Linked
mod Links
pub mod Shared
