pub mod Links
pub mod Numbered
pub mod Named
pub mod Earlier
pub mod CountedUpTo
pub mod CellsBelow
pub mod Recorded
