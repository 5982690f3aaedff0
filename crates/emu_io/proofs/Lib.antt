pub mod Examples
pub mod HeldLemmas
pub mod LeftLemmas
pub mod TakeLemmas
