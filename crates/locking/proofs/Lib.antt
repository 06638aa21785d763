pub mod Choices
pub mod StaysProper
pub mod NoTime
pub mod Editions
pub mod Determined
