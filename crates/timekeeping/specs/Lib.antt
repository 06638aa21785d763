-- In reading order: the time and what an offered block does to it, and when a time is proper.
pub mod Times
pub mod Proper
