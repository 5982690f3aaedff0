pub mod Edge
pub mod Faults
pub mod Held
pub mod Left
pub mod Memory
pub mod Schedule
pub mod Sure
