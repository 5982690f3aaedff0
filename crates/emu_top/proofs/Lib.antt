pub mod CheckLemmas
pub mod JudgeLemmas
pub mod TrafficLemmas
pub mod RunLemmas
