mod Walks
pub mod Kept
pub mod ScriptLemmas
pub mod Tallied
pub mod Woven
pub mod Freeing
pub mod Refusing
pub mod Dropping
pub mod Asking
pub mod PlayLemmas
pub mod Pinned
