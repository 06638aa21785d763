-- In reading order: the call under an edition, and the flat answers.
pub mod Under
pub mod Face
