pub mod LiveStrands
pub mod ContextOrder
pub mod OrderKept
pub mod NamesOnce
