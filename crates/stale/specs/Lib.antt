pub mod Told
pub mod Stale
pub mod Leaves
pub mod Mapped
pub mod Uses
pub mod UseRuns
pub mod Lasting
