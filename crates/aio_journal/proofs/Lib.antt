mod Bounds
mod Pieces
mod Reading
