-- Lemmas that every store and cache uses.
pub mod Firsts
