-- In reading order: the fields in their word, the editions, the ranges, the calls, and what the paper gives for each answer.
pub mod Fields
pub mod Editions
pub mod Ranges
pub mod Words
pub mod Given
