mod Blocks
mod Numerals
mod Pieces
mod Places
