pub mod Kept
pub mod Nodes
pub mod Parts
pub mod Expression
pub mod Statement
pub mod TreeExpression
pub mod TreeStatement
