pub mod Unique
pub mod Encoder
pub mod Linear
pub mod Nearest
pub mod Determined
