mod NameBytes
mod OneFrame
mod Listed
mod Bodies
mod Pieces
