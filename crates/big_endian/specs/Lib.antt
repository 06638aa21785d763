-- In reading order: numbers in digits, and the number that bytes write.
pub mod Digits
pub mod Bytes
