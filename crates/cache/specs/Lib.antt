-- The definitions of a cache.
pub mod Rules
pub mod Answers
pub mod Decisions
