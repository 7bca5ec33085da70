pub mod Making
pub mod Accessing
