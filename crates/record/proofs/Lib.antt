-- The laws, in reading order: tests, the offset's six bits, the ranges, reading by the fields, then what the calls promise together.
pub mod Tests
pub mod Offset
pub mod Bounds
pub mod Reading
pub mod RoundTrip
pub mod OneOfThree
pub mod Zeros
pub mod Determined
