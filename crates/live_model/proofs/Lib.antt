mod Bodies
mod NewRows
mod ReadBodies
mod Readable
mod Html
mod Noted
pub mod Shared
