-- The proofs that the rules of a cache make the steps of the model, each file over the one before.
pub mod Names
pub mod Numbered
pub mod Slots
pub mod Links
pub mod Asking
pub mod Answering
pub mod Places
pub mod Running
pub mod Exampling
