pub mod Facts
pub mod Told
pub mod Chains
pub mod Examples
pub mod Records
