-- The definitions of the model, from its words to what is promised of it.
pub mod Exchanges
pub mod World
pub mod Promise
pub mod Cases
