pub mod Scenes
pub mod Loans
