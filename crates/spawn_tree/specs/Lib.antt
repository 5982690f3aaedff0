pub mod Joining
pub mod code
