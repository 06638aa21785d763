-- In reading order: what the characters say, and what is known of a piece that was read.
pub mod Characters
pub mod Pieces
