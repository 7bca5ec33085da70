pub mod Answering
pub mod Asked
pub mod Alone
pub mod Runs
