pub mod Words
pub mod Sources
pub mod Verdicts
pub mod Runs
pub mod Causes
pub mod code
