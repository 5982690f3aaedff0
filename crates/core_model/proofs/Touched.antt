pub mod RunsAlike
pub mod Untouched
pub mod OthersAlike
