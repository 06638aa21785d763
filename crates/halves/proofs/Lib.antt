pub mod Magnitude
pub mod TwoByTwo
pub mod Choosing
pub mod Taking
pub mod Rounding
pub mod Exchanging
pub mod Doubting
pub mod Determined
