pub mod PutBack
pub mod Links
pub mod Ways
