pub mod Changes
pub mod Mending
pub mod Laws
pub mod Limits
pub mod Search
