pub mod Carried
pub mod Kept
pub mod Left
pub mod code
