pub mod Memos
pub mod Tried
