pub mod NewWord
