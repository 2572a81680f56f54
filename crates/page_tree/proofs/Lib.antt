mod Tables
mod Lists
mod Document
mod Bytes
mod Cuts
mod Subtrees
mod Edits
mod Queries
mod Upward
pub mod Shared
