-- The laws, in reading order.
pub mod Hearing
pub mod Logging
