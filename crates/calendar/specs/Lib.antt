-- In reading order: leap codes, years, their days and weeks, the calls, the next minute, minutes later, and what the paper gives for each answer.
pub mod LeapCodes
pub mod Years
pub mod Days
pub mod Weeks
pub mod Dates
pub mod NextMinute
pub mod MinutesLater
pub mod Given
