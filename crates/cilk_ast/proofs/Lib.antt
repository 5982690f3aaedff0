pub mod ExpressionForms
pub mod StatementForms
pub mod TreeExpressionForms
pub mod TreeStatementForms
mod KeptExamples
