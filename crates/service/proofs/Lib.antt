pub mod Printing
pub mod FirstBlocks
pub mod Refusals
mod RequestRows
