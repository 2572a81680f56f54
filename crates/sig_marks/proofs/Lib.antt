mod Kept
mod LinkedSets
mod ListedReaders
mod PushedMarks
pub mod Shared
