pub mod InstructionsLeft
pub mod Sums
pub mod Balance
pub mod Departures
pub mod NodeletSums
pub mod LightActions
pub mod RankOfRuns
pub mod RankOfEvents
