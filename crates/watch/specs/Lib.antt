pub mod Trace
pub mod Holding
pub mod Staleness
pub mod Verdicts
pub mod Computed
pub mod ComputedTraces
pub mod WorkedTraces
