pub mod AddressLaws
pub mod RowBound
pub mod LeastMultiple
mod AddressRows
mod CursorRows
