pub mod Samples
pub mod Arguments
pub mod Related
pub mod RelatedStatements
pub mod Growth
pub mod Turns
pub mod Fronts
pub mod PieceBounds
pub mod PieceSpellings
pub mod TextWalk
pub mod OneCut
pub mod TokenSpellings
pub mod LexemeEnds
mod ExpressionExamples
mod OrderExamples
mod LoopExamples
mod CallExamples
mod JoinExamples
mod CilkForExamples
mod WrittenExamples
mod LevelExamples
mod TokenExamples
pub mod TreeSamples
mod CheckExamples
mod LoweringExamples
mod CanonicalExamples
mod FormExamples
