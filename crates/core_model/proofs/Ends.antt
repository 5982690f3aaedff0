pub mod FirstBelow
pub mod Earliest
pub mod TrapsTold
pub mod TurnsLacked
pub mod EndShown
pub mod Family
pub mod FamilyKept
pub mod MainLast
