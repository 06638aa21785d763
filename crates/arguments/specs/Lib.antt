-- In reading order: the number that digits write, and what is written with numbers.
pub mod Numbers
pub mod Editions
pub mod Times
