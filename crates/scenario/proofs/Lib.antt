pub mod ItemLines
pub mod LiveLemmas
pub mod FileLemmas
pub mod OutputLemmas
pub mod AskLemmas
pub mod NumberLemmas
pub mod TroubleLemmas
pub mod RowLemmas
pub mod OptionLemmas
pub mod StepLemmas
pub mod WordLemmas
pub mod OutcomeLemmas
pub mod StaleLemmas
mod PrintFacts
mod EndingFacts
