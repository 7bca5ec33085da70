pub mod Escaping
pub mod Joined
