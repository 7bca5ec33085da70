pub mod Tools
pub mod Accepted
pub mod Orders
pub mod Posts
pub mod Waiting
pub mod Acknowledged
pub mod Live
pub mod Serving
pub mod Counting
pub mod Outstanding
pub mod Filling
pub mod Fresh
pub mod Causes
pub mod Holding
pub mod Clearing
pub mod Cohering
pub mod StoredWords
pub mod TreeKept
mod DueStores
pub mod Halves
pub mod Changing
pub mod MapsKept
pub mod Setups
pub mod Asids
mod Remaining
pub mod Walkers
pub mod Completed
mod Staying
mod Requested
pub mod PointersKept
