pub mod Stretch
pub mod Compiled
pub mod Whole
pub mod Compiling
pub mod Parts
pub mod Prints
pub mod Heights
pub mod Laws
