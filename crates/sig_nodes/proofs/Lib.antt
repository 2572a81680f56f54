mod Sources
mod Edits
mod ReadOn
mod Pauses
mod Gaps
mod Lives
pub mod Shared
