pub mod Fills
pub mod Kept
pub mod Orders
pub mod Outstanding
pub mod Posts
