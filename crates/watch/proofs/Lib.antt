pub mod Since
pub mod Remembering
pub mod Watching
pub mod Turns
pub mod Last
pub mod History
pub mod Determined
