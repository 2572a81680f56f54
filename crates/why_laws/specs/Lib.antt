pub mod Ties
pub mod WhyLaws
pub mod Journals
