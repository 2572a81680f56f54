pub mod Heard
pub mod HeardAgain
pub mod Standing
pub mod Unseen
