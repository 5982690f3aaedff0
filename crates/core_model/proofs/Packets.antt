pub mod NoLink
pub mod EachStrand
pub mod OwnedWords
pub mod SentResults
pub mod ResultHomes
pub mod FirstCanCome
pub mod TravellingContexts
