pub mod Kept
pub mod Memos
pub mod Changes
pub mod Outcomes
pub mod Before
