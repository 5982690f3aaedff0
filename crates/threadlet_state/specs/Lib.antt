pub mod Activations
pub mod Fit
pub mod Silent
pub mod Answered
