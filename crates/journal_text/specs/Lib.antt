pub mod Journals
pub mod Reading
pub mod Decoding
