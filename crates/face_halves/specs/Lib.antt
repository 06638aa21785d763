-- In reading order: the call under a polarity, and its answer as C sees it.
pub mod Under
pub mod Face
