mod Few
mod Numerals
mod Parses
