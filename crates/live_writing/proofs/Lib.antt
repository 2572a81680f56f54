mod Levels
mod Numbered
mod Printer
mod Pieces
