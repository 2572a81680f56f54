pub mod LivePages
pub mod Examples
