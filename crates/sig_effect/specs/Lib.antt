pub mod Answers
pub mod Events
pub mod Results
pub mod Wholes
pub mod Stores
pub mod Kinds
