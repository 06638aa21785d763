-- In reading order: the polarities, which readings are in range, how they are paired, what a pair says, the answer with its refusals, and what holds of it.
pub mod Polarities
pub mod Readings
pub mod Pairs
pub mod Decision
pub mod Answer
pub mod Laws
