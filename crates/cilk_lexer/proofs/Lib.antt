pub mod Comments
pub mod Walks
