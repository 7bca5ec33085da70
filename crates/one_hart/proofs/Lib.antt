pub mod Steps
pub mod Calls
pub mod Edited
pub mod Walked
pub mod Dues
pub mod Lists
pub mod Opened
pub mod CallRuns
