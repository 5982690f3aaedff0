pub mod LastOf
mod PutBackLaws
mod PutBackExamples
mod Moved
pub mod Movement
