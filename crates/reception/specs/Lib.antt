-- In reading order: reports and their sum, what blocks add, adding and joining, the share of good blocks, and what holds of it.
pub mod Reports
pub mod Tally
pub mod Adding
pub mod Share
pub mod Laws
