pub mod Machine
pub mod Events
pub mod Core
pub mod Replay
pub mod Order
pub mod Merge
pub mod Laws
