mod Uniqueness
mod Totality
mod Unescaped
mod EachToken
mod Fronts
mod LexemeLaws
mod LiteralLaws
mod Numbers
pub mod Shared
