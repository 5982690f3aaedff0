mod CodeTextExamples
pub mod Bodies
pub mod Cuts
pub mod Many
pub mod Numerals
pub mod Instructions
pub mod LineFinds
pub mod HeaderFinds
pub mod PlacedFinds
pub mod Taken
pub mod WholeFinds
pub mod WholeSound
pub mod Whole
pub mod Lengths
