pub mod Numerals
pub mod Positions
pub mod DigitTable
pub mod FieldLemmas
pub mod DashLemmas
pub mod LetterLemmas
pub mod RecordLemmas
pub mod FirstBytes
pub mod Hexadecimal
pub mod CountLemmas
pub mod ShownLemmas
mod CauseLemmas
pub mod CauseOrder
pub mod Spaced
pub mod WorkedLines
pub mod PrintedNumbers
pub mod PrintedLines
pub mod PrintedRecords
pub mod WorkedWarnings
pub mod WorkedCauseLines
mod OutputLemmas
mod LineLemmas
mod FilterLemmas
mod OrderLemmas
mod VerdictLemmas
mod ReadLemmas
mod EndingLemmas
pub mod TriggerLaws
pub mod FilterLaws
mod PrefixLemmas
mod ExplainLemmas
mod NoFeeds
pub mod StoryLaws
pub mod WorkedReports
pub mod WorkedJson
pub mod WorkedMost
pub mod JsonLaws
pub mod WorkedFilters
pub mod WorkedStories
mod TextLemmas
mod NoteLemmas
mod ResolvedLists
mod RunLemmas
pub mod StandingLemmas
mod BlockLemmas
mod StoryLemmas
pub mod KnownLemmas
mod KnownLaws
pub mod FaultLaws
pub mod WorkedFaults
pub mod WorkedKnownTexts
pub mod WorkedKnownReports
pub mod NoteGroupLemmas
pub mod GroupOrder
pub mod NoteLineLemmas
pub mod WorkedNotes
pub mod NoteSums
