pub mod Views
pub mod OneFrame
pub mod Decoding
pub mod Fronts
pub mod Telling
