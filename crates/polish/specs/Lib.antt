pub mod Crc
pub mod Frame
pub mod Read
pub mod Write
pub mod Taken
