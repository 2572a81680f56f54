pub mod Differences
pub mod PageMemos
pub mod Updates
