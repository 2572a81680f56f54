pub mod Lexemes
pub mod Literals
pub mod Scanner
pub mod Tokens
