pub mod AnswerLines
pub mod Marks
pub mod ReplyLines
pub mod Rows
pub mod Runs
pub mod Sheet
