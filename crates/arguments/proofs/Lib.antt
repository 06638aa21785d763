pub mod Digits
pub mod Determined
