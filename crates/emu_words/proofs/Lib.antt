mod AskedLemmas
mod CommandLemmas
mod Examples
mod RowLemmas
