pub mod Near
pub mod Places
pub mod Told
pub mod Shown
pub mod Meant
pub mod Lines
pub mod Notes
pub mod WorkedNotes
