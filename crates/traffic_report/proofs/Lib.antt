mod ReportExamples
pub mod Below
pub mod Lines
