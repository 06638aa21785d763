-- In reading order: what is heard and which windows may be good, how long lock takes, how long a confirmed time takes, and where the
-- promises end.
pub mod Heard
pub mod Wait
pub mod Dial
pub mod Limits
