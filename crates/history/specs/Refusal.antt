-- The refusals of edits, of openings of tickets, and of posts.
use Rattle.spaces.specs.declared.faults.MapFault.{MapFault}
use Rattle.spaces.specs.declared.faults.MapFault.TheVariants as fault
use Rattle.shoot.specs.declared.mailbox.PostFault.{PostFault}
use Rattle.shoot.specs.declared.mailbox.PostFault.TheVariants as post_fault
use Rattle.shoot.specs.declared.tickets.TicketFault.{TicketFault}
use Rattle.shoot.specs.declared.tickets.TicketFault.TheVariants as ticket_fault
use Rattle.history.specs.declared.refusal.Refusal.{Refusal}
use Rattle.history.specs.declared.refusal.Refusal.TheVariants.{NotHome, WrongHalf, BadFlags, PpnTooLarge, Misaligned, AlreadyMapped, LeafInWay, TableInWay, NoFrame, NotMapped, WrongSize, HomeNotNamed, NoTicket, Closed, Full}

-- an edit's fault as a refusal
abbrev pub refusal_of : MapFault → Refusal
refusal_of fault.NotHome = NotHome
refusal_of fault.WrongHalf = WrongHalf
refusal_of fault.BadFlags = BadFlags
refusal_of fault.PpnTooLarge = PpnTooLarge
refusal_of fault.Misaligned = Misaligned
refusal_of fault.AlreadyMapped = AlreadyMapped
refusal_of fault.LeafInWay = LeafInWay
refusal_of fault.TableInWay = TableInWay
refusal_of fault.NoFrame = NoFrame
refusal_of fault.NotMapped = NotMapped
refusal_of fault.WrongSize = WrongSize

-- that of a ticket which can't be opened
abbrev pub opening_refusal : TicketFault → Refusal
opening_refusal ticket_fault.HomeNotNamed = HomeNotNamed
opening_refusal ticket_fault.NoTicket = NoTicket

-- that of a request which a mailbox doesn't take
abbrev pub posting_refusal : PostFault → Refusal
posting_refusal post_fault.Closed = Closed
posting_refusal post_fault.Full = Full
