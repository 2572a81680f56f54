pub mod Flags
pub mod Seats
pub mod Found
