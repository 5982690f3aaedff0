pub mod TrapsByPlay
pub mod FirstTraps
