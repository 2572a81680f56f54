mod Accepted
mod Complete
mod Groups
mod Laws
mod Lexer
mod Minimal
mod Places
mod Quotes
mod Refusals
mod Slots
mod RoundTrips
mod Sound
mod Texts
pub mod Shared
