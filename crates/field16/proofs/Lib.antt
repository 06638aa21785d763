pub mod Elements
pub mod Digits
pub mod Entries
pub mod Words
pub mod Distance
pub mod Determined
