-- Lemmas on a cache.
pub mod Names
pub mod Loops
pub mod Rooms
pub mod Decided
