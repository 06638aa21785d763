pub mod Multiples
pub mod Products
pub mod Powers
pub mod Halving
pub mod Joining
pub mod Determined
