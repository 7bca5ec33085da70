-- What the results of a port's calls, and the replies of a machine, are as answers.
use Rattle.std.specs.Prelude.{ℕ, Result, Ok, Err}
use Rattle.walk.specs.declared.found_or_trap.Trap.{Trap}
use Rattle.shoot.specs.Request.{Request}
use Rattle.shoot.specs.declared.tickets.Collected.{Collected}
use Rattle.history.specs.declared.refusal.Refusal.{Refusal}
use Rattle.history.specs.declared.reply.Reply.{Reply}
use Rattle.history.specs.declared.reply.Reply.TheVariants as reply
use Rattle.stepcore.specs.Answers.{progress_reply}
use Rattle.board.specs.declared.mapped.Mapped.{Mapped}
use Rattle.board.specs.declared.mapped.Mapped.TheVariants as mapped

-- a machine's reply, where an address that a walk found is told as one that the TLB answers: a port
-- does not say which of them it was
abbrev pub heard : Reply → Reply
heard (reply.Filled pa) = reply.Hit pa
heard reply = reply

-- a port's results as replies
abbrev pub translation_told : Result ℕ Trap → Reply
translation_told (Ok pa) = reply.Hit pa
translation_told (Err trap) = reply.Trap trap

abbrev pub map_told : Result Mapped Refusal → Reply
map_told (Ok (mapped.Table ppn)) = reply.Table ppn
map_told (Ok mapped.Leaf) = reply.Leaf
map_told (Err refusal) = reply.Refused refusal

abbrev pub opening_told : Result ℕ Refusal → Reply
opening_told (Ok ticket) = reply.Opened ticket
opening_told (Err refusal) = reply.Refused refusal

abbrev pub call_told : Result (Unit {0}) Refusal → Reply
call_told (Ok nothing) = reply.Ok
call_told (Err refusal) = reply.Refused refusal

abbrev pub service_told : Result Request Refusal → Reply
service_told (Ok request) = reply.Taken request
service_told (Err refusal) = reply.Refused refusal

abbrev pub progress_told : Result Collected Refusal → Reply
progress_told (Ok collected) = progress_reply collected
progress_told (Err refusal) = reply.Refused refusal
