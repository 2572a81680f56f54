pub mod Examples
pub mod Jobs
pub mod Rounds
