pub mod State
pub mod Answers
pub mod Changes
pub mod Stands
pub mod Runs
