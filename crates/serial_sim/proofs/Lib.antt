pub mod Once
pub mod GoesFurther
pub mod LegalOnes
mod WordExamples
mod PickExamples
pub mod StampsCounted
pub mod RunsScheduled
pub mod WholeRuns
