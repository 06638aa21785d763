-- In reading order: the calls under an edition, and how the time stands as C sees it.
pub mod Under
pub mod Face
