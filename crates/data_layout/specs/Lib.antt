pub mod Address
pub mod Cursor
pub mod CursorTable
