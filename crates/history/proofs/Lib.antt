pub mod Splits
pub mod Occurred
pub mod OpenOrders
pub mod Passing
pub mod Mailboxes
pub mod Ordered
pub mod Walks
pub mod Lasting
pub mod InWalk
pub mod LeastFree
mod Lawfully
pub mod NoHarts
pub mod Retiring
mod Retired
mod Statuses
pub mod Answering
pub mod Leaving
