-- In reading order: strings fed to a lock, the course from hunting to lock, the windows of a run, the promise from a fresh state, the
-- same from any lock, a window of bits that wait and bits that are heard, from any state, the confirmed time, and the limits.
pub mod Fed
pub mod Course
pub mod Windows
pub mod Fresh
pub mod Settled
pub mod Joined
pub mod AnyState
pub mod Dial
pub mod Ladder
pub mod Limits
