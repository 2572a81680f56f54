mod Blocks
mod Completeness
mod Findings
mod Kept
mod Listed
mod Longest
mod NameBytes
mod OneLine
mod Printable
mod Tokens
mod Lexer
mod Causes
mod Scalars
mod Slots
mod Soundness
mod Separators
mod Tags
pub mod Shared
