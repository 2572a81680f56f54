pub mod Listed
pub mod Answers
pub mod Computations
pub mod Nodes
pub mod Pauses
pub mod Reading
pub mod Gaps
pub mod Lends
