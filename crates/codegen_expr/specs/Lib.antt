pub mod Piece
pub mod Emitted
pub mod Stands
pub mod Implements
pub mod Gains
pub mod Parts
pub mod Laws
