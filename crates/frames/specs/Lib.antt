-- The definitions of frames and events, from bytes to what holds of them all.
pub mod Events
pub mod Faults
pub mod Frames
pub mod Laws
pub mod Streams
pub mod Took
pub mod Views
