mod Bodies
mod Names
mod Tables
mod Cells
