pub mod Bounds
pub mod LooseValues
pub mod MachineValues
pub mod Places
pub mod Whole
pub mod WalkNumbers
