-- In reading order: bytes as entries, their order, the trailer, what compaction and salvage do, and what holds of it.
pub mod Entries
pub mod Order
pub mod Trailer
pub mod Compaction
pub mod Salvage
pub mod Laws
