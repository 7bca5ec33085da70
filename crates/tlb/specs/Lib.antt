pub mod Slots
pub mod Banks
pub mod Entries
pub mod Fence
pub mod Service
pub mod Mappings
pub mod Answer
pub mod WorkedRows
