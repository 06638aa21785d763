-- In reading order: the lock and when it is proper, and what a judged window does to it in each of the three modes.
pub mod Locks
pub mod Modes
