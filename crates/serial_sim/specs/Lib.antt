pub mod Schedule
pub mod Scheduled
pub mod code
