-- The definitions of the proxy, from one event to whole runs.
pub mod Batches
pub mod Responses
pub mod Runs
pub mod Steps
