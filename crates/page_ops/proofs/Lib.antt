mod Subtrees
mod Refusals
mod Written
mod Words
mod Quotes
mod Attributes
mod Listed
mod Nested
mod Texts
mod Readable
pub mod Shared
