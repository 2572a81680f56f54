mod Unread
mod Grammars
mod Spellings
pub mod Shared
