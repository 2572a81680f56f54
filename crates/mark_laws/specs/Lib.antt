pub mod Marked
pub mod MarkLaws
