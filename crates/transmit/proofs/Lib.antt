pub mod Sending
pub mod Exactly
