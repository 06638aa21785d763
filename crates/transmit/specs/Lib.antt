-- In reading order: chance, and the blocks that are sent.
pub mod Chance
pub mod Blocks
