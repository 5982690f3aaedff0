pub mod Kept
pub mod Advanced
pub mod code
pub mod Shown
