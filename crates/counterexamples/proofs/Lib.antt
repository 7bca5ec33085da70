pub mod RunsAreLawful
pub mod ShootdownRows
pub mod KernelRows
mod MailboxRows
mod SuperpageEntries
mod RefusalRows
mod StalenessRows
mod Sv48Rows
mod SetupFacts
pub mod RetireRows
mod TranslationRows
mod ServiceRows
pub mod TerapageEntries
mod Promises
mod Sv48Entries
mod ClearFacts
mod CoherentFacts
mod MailboxFacts
mod StillTranslated
mod RetiredFacts
mod PremisesMet
mod Refuted
mod RetiredRefuted
mod DoneFacts
mod HeadlineFacts
mod UsedFacts
mod LockFacts
