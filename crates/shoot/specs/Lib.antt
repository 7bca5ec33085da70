pub mod Acknowledgement
pub mod FreeTickets
pub mod HartSet
pub mod Mailbox
pub mod MailboxHistory
pub mod Request
pub mod Tickets
pub mod WorkedRows
