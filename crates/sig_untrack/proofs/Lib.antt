mod Acts
mod Statements
