mod JournalExamples
pub mod Scans
pub mod Complete
pub mod Steps
pub mod Whole
pub mod Sound
