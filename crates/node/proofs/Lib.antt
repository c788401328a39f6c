-- Lemmas on a cache by value.
pub mod Stepped
