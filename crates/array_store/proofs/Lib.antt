-- Lemmas on a store by value.
pub mod Changes
pub mod Viewed
