-- In reading order: a time that blocks age, records and their words, a block fed bit by bit, the blocks of some minutes, missed ones,
-- the statement, and that its conditions can be met.
pub mod Aging
pub mod Worded
pub mod Fed
pub mod Minutes
pub mod Missed
pub mod Shown
pub mod NotEmpty
