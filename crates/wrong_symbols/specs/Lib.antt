pub mod Explained
pub mod Search
