pub mod Bits
pub mod Division
pub mod Polynomials
pub mod Block
pub mod Read
pub mod Write
pub mod Choose
pub mod Packed
