mod LeftOut
pub mod Shared
