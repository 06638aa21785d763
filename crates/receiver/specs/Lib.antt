-- In reading order: the state, one bit, a run, what was fed, looked back on, the remainder told, the state with its bits as one
-- number, and a run that ends where lock changes.
pub mod States
pub mod Steps
pub mod Runs
pub mod History
pub mod Told
pub mod Packed
pub mod Changes
