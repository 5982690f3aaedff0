pub mod Samples
mod Events
mod Counts
mod Ranks
mod Touched
