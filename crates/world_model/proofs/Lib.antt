pub mod Samples
mod MemoryExamples
mod FetchExamples
mod ChildExamples
mod EndingExamples
mod GrantExamples
mod InitExamples
mod AllocationExamples
mod TrafficExamples
mod UpgradeExamples
pub mod Names
pub mod Runs
pub mod Shapes
pub mod Steps
pub mod Pending
pub mod Bounds
pub mod Order
pub mod OneList
pub mod Settling
pub mod Upgrades
mod CellExamples
mod MeaningExamples
mod WaitingExamples
mod LateExamples
mod ActivationExamples
mod PlaceExamples
mod OutcomeExamples
mod GrantOrderExamples
mod CountingExamples
