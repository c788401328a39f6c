-- What a cache by value stands for.
pub mod Worlds
