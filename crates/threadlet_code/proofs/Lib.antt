pub mod Samples
mod MachineExamples
mod RuleExamples
pub mod Stepping
pub mod Nearing
pub mod FromLaws
mod Counting
mod Heights
pub mod Among
pub mod Arrivals
mod Bools
mod Waves
mod Spanning
mod Settling
mod Fronts
mod Carries
mod Walks
mod SpanRules
mod Firsts
pub mod Stable
pub mod Leads
pub mod Fitting
pub mod FitsNext
pub mod Tidying
pub mod Halting
pub mod FitLaws
pub mod Following
pub mod WellCode
pub mod Kept
