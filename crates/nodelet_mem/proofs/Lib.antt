mod WordRows
pub mod Addresses
pub mod PagesKept
pub mod WordChanged
pub mod Listing
pub mod ListedPages
pub mod RunsJoined
pub mod RunsOrdered
pub mod RunsPut
pub mod Numbers
