-- The proof of the promise, each file over the one before.
pub mod Lists
pub mod Invariant
pub mod Steps
pub mod Promised
