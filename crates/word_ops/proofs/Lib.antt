pub mod Digits
mod OperatorExamples
mod TextExamples
mod ComparisonExamples
