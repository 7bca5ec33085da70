pub mod Calls
pub mod Accesses
