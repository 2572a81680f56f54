pub mod Renamed
pub mod Needed
