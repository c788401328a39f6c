-- The proofs about the model's definitions; the promise is proved in the crate `promise`.
pub mod Played
