pub mod Code
pub mod Mending
