pub mod Grants
pub mod GrantsState
pub mod Listing
pub mod Pages
pub mod Words
