-- What a store by value stands for.
pub mod Shorts
pub mod Places
