-- Lemmas that several proofs share.
pub mod Fronts
pub mod Lines
pub mod Readings
pub mod Steps
