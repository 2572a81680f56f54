pub mod Acts
pub mod Rewires
pub mod Labels
pub mod Alone
