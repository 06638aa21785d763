pub mod Choices
pub mod WholeMinutes
pub mod StaysProper
pub mod NoTime
pub mod Determined
