-- What a call of one event answers, as the reply to that event, and what it leaves.
use Rattle.std.specs.Prelude.{ℕ, ◌≡◌, Bool, true, false, Result, Ok, Err}
use Rattle.shoot.specs.Request.{Request}
use Rattle.shoot.specs.declared.tickets.Collected.{Collected}
use Rattle.shoot.specs.declared.tickets.Collected.TheVariants as collected
use Rattle.history.specs.declared.event.Event.{Event}
use Rattle.history.specs.declared.event.Event.TheVariants.{Map, Unmap, Protect, Flush, Switch, Fence, Post, Take, ServeFence, Ack, AckSelf, Collect, Finish, Close, Retire, Reclaim, Create}
use Rattle.history.specs.declared.refusal.Refusal.{Refusal}
use Rattle.history.specs.declared.refusal.Refusal.TheVariants.{NoHart}
use Rattle.history.specs.declared.reply.Reply.{Reply}
use Rattle.history.specs.declared.reply.Reply.TheVariants as reply
use Rattle.history.specs.Due.{due}
use Rattle.history.specs.Setup.{Setup}
use Rattle.history.specs.Turns.{History}
use Rattle.history.specs.Runs.{with_turn}
use Rattle.board.specs.declared.mapped.Mapped.{Mapped}
use Rattle.board.specs.declared.mapped.Mapped.TheVariants as mapped
use Rattle.stepcore.specs.Changes.{Follows, is_accepted}
use Rattle.stepcore.specs.Runs.{Promises}
use Rattle.stepcore.specs.Stands.{Stands}
use Rattle.stepcore.specs.State.{State}

-- the reply that a result tells: of a step of mapping, of a call that opens a ticket, of one that
-- returns no value, of one that takes a request, and of one that says how far a ticket is
abbrev pub map_reply : Result Mapped Refusal → Reply
map_reply (Ok (mapped.Table ppn)) = reply.Table ppn
map_reply (Ok mapped.Leaf) = reply.Leaf
map_reply (Err refusal) = reply.Refused refusal

abbrev pub opening_reply : Result ℕ Refusal → Reply
opening_reply (Ok ticket) = reply.Opened ticket
opening_reply (Err refusal) = reply.Refused refusal

abbrev pub call_reply : Result (Unit {0}) Refusal → Reply
call_reply (Ok done) = reply.Ok
call_reply (Err refusal) = reply.Refused refusal

abbrev pub taking_reply : Result Request Refusal → Reply
taking_reply (Ok request) = reply.Taken request
taking_reply (Err refusal) = reply.Refused refusal

abbrev pub progress_reply : Result Collected Refusal → Reply
progress_reply (Ok collected.Done) = reply.Done
progress_reply (Ok (collected.Waiting harts)) = reply.Waiting harts
progress_reply (Err refusal) = reply.Refused refusal

-- a reply as a result of each kind, and a refusal for one that is due to no event of it
abbrev pub mapped_of : Reply → Result Mapped Refusal
mapped_of (reply.Table ppn) = Ok (mapped.Table ppn)
mapped_of reply.Leaf = Ok mapped.Leaf
mapped_of (reply.Refused refusal) = Err refusal
mapped_of _ = Err NoHart

abbrev pub opened_of : Reply → Result ℕ Refusal
opened_of (reply.Opened ticket) = Ok ticket
opened_of (reply.Refused refusal) = Err refusal
opened_of _ = Err NoHart

abbrev pub called_of : Reply → Result (Unit {0}) Refusal
called_of reply.Ok = Ok tt
called_of (reply.Refused refusal) = Err refusal
called_of _ = Err NoHart

abbrev pub taken_of : Reply → Result Request Refusal
taken_of (reply.Taken request) = Ok request
taken_of (reply.Refused refusal) = Err refusal
taken_of _ = Err NoHart

abbrev pub progress_of : Reply → Result Collected Refusal
progress_of reply.Done = Ok collected.Done
progress_of (reply.Waiting harts) = Ok (collected.Waiting harts)
progress_of (reply.Refused refusal) = Err refusal
progress_of _ = Err NoHart

-- the events of each kind
abbrev pub maps : Event → Bool
maps (Map hart place page ppn flags) = true
maps _ = false

abbrev pub opens : Event → Bool
opens (Unmap hart place page named) = true
opens (Protect hart place page flags named) = true
opens (Flush hart scope named) = true
opens (Retire hart space) = true
opens _ = false

abbrev pub calls : Event → Bool
calls (Switch hart space) = true
calls (Fence hart rs1 rs2) = true
calls (Post hart ticket to) = true
calls (ServeFence hart) = true
calls (Ack hart) = true
calls (Finish hart ticket) = true
calls (Close hart to) = true
calls (Reclaim hart space) = true
calls (Create hart space asid) = true
calls _ = false

abbrev pub takes : Event → Bool
takes (Take hart from) = true
takes _ = false

abbrev pub collects : Event → Bool
collects (AckSelf hart ticket) = true
collects (Collect hart ticket from) = true
collects _ = false

-- An event was made of a machine that stood at a history: the reply is the one that is due; the new
-- machine is what the event and the reply leave of the old one, stands at the history with this
-- turn, and keeps the promises; and a refusal changes nothing.
pub record IsMade (setup : Setup) (history : History) (old : State) (event : Event) (reply : Reply)
    (new : State) : Type 0 where
  pub due : reply ≡ due setup history event
  pub follows : Follows old event reply new
  pub stands : Stands setup new (with_turn event reply history)
  pub promises : Promises setup (with_turn event reply history) new
  pub refused : is_accepted reply ≡ false → new ≡ old

-- so it is for every history at which the machine stood
abbrev pub Makes : State → Event → Reply → State → Type 0
Makes old event reply new =
    (setup : Setup) (history : History) → Stands setup old history
    → IsMade setup history old event reply new
