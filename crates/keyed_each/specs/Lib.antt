pub mod Examples
pub mod Keys
pub mod Steps
pub mod Queue
pub mod Standing
