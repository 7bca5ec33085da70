pub mod Seen
pub mod Walked
pub mod Bridge
pub mod Hitting
pub mod Acked
pub mod Telling
pub mod Unmapping
pub mod Adding
pub mod Ordering
pub mod Changed
pub mod NoEdit
pub mod UnderLeaf
pub mod ByEdit
pub mod ToldEdit
pub mod Overlaps
pub mod Stepping
pub mod Reporting
mod Differing
mod Once
pub mod Passing
pub mod Whole
pub mod Options
pub mod Everywhere
pub mod Lasts
mod Unchanged
