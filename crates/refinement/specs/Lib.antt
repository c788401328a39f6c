-- How a cache stands for a world of the model.
pub mod Numbers
pub mod Stands
pub mod Steps
pub mod Runs
pub mod Example
