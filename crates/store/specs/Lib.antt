-- The definitions of a store.
pub mod Slots
