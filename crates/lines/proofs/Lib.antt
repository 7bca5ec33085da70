pub mod CountLemmas
pub mod Hexadecimal
pub mod LineLemmas
pub mod ReplyLemmas
pub mod RowLemmas
pub mod RunLemmas
