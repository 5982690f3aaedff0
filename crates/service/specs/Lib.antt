pub mod Requests
pub mod ServiceState
