pub mod FrameLaws
pub mod Deepest
pub mod Stacks
pub mod Instructions
pub mod Rooms
pub mod Stepped
pub mod Entering
pub mod Here
pub mod Going
pub mod Halted
pub mod Bringing
pub mod Resumed
mod StepExamples
