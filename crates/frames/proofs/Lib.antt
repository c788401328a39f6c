-- The proofs about the definitions of frames and events.
pub mod Back
pub mod ByKind
pub mod Outward
pub mod Pieces
pub mod Settled
pub mod Where
