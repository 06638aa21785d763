-- The laws, in reading order: years and their leap codes, months and weeks, the coded year, what an answer says, then what the calls
-- promise together, and how the editions correspond.
pub mod Choice
pub mod Unwrapped
pub mod Years
pub mod LeapCodes
pub mod KindOfYear
pub mod OneYear
pub mod Months
pub mod Weeks
pub mod Around
pub mod Bounds
pub mod CodedYear
pub mod Answers
pub mod DayOfRecord
pub mod RoundTrip
pub mod Weekdays
pub mod HasRecord
pub mod WholeWeeks
pub mod NextDay
pub mod Stepping
pub mod MinutesLater
pub mod GoesOn
pub mod Editions
pub mod Zeros
pub mod Determined
