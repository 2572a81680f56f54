pub mod Renewals
pub mod Heads
pub mod Changes
pub mod Listed
pub mod Nameless
pub mod Rounds
pub mod SameTexts
pub mod Turns
