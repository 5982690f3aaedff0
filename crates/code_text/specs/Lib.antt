pub mod Names
pub mod Lines
pub mod CodeText
pub mod Words
pub mod Reading
pub mod Decoding
pub mod Codes
