pub mod Distinct
pub mod Keys
mod Leads
mod Order
