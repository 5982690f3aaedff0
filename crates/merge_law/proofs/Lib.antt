pub mod Somes
pub mod Pairs
pub mod ByKey
pub mod Stamps
pub mod Replays
pub mod Same
pub mod Steps
pub mod Placing
pub mod Ends
pub mod Whole
pub mod Growing
pub mod InOrder
pub mod Counted
pub mod PartsCounted
pub mod Samples
mod EventExamples
mod MergeExamples
mod WholeExample
