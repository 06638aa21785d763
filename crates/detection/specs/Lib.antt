pub mod Damage
pub mod Slips
pub mod Limits
