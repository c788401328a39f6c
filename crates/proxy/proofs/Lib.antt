-- The proofs about the definitions of the proxy.
pub mod Answered
pub mod Batched
pub mod Cut
pub mod Stepped
