-- What a step of a live run does of its hart's port, and what it answers.
use Rattle.std.specs.Prelude.{ℕ, zero, suc, ◌≡◌, ◌<◌, ◌⊎◌, Bool, true, false, [], ◌∷◌, Some, None, Result, Ok, Err, IfOk, IfErr}
use mathlib.Core.List.{IsPrefix}
use Rattle.pte.specs.Address.{IsCanonical}
use Rattle.pte.specs.declared.permission.Access.{Access}
use Rattle.pte.specs.declared.permission.Ctx.{Ctx}
use Rattle.walk.specs.Answer.{page_trap}
use Rattle.walk.specs.declared.found_or_trap.Trap.{Trap}
use Rattle.walk.specs.declared.found_or_trap.Why.TheVariants.{NotCanonical}
use Rattle.tlb.specs.Answer.{answer_of}
use Rattle.tlb.specs.Entries.{first_match}
use Rattle.tlb.specs.declared.store.Entry.{Entry}
use Rattle.spaces.specs.declared.wishes.Wish.TheVariants as wish
use Rattle.shoot.specs.Request.{Request}
use Rattle.shoot.specs.Tickets.{is_open, progress_at}
use Rattle.shoot.specs.declared.tickets.Collected.{Collected}
use Rattle.shoot.specs.declared.tickets.Collected.TheVariants as collected
use Rattle.history.specs.Due.{are_pair}
use Rattle.history.specs.declared.live_step.LiveStep.{LiveStep}
use Rattle.history.specs.declared.live_step.LiveStep.TheVariants as live_step
use Rattle.history.specs.declared.refusal.Refusal.{Refusal}
use Rattle.history.specs.declared.refusal.Refusal.TheVariants.{Empty, Full, NoHart, NotOpen}
use Rattle.history.specs.declared.reply.Reply.TheVariants as reply
use Rattle.board.specs.declared.mapped.Mapped.{Mapped}
use Rattle.board.specs.declared.mapped.Mapped.TheVariants as mapped
use Rattle.board.specs.Answers.{ack_self_answer, after_ack_self, after_close_to, after_finish_of, after_flush, after_no_post, after_post, after_serve, close_answer, finish_answer, flush_answer, known_room, known_waiting, post_refusal}
use Rattle.board.specs.Collects.{IsCollected}
use Rattle.board.specs.Ports.{PortState, inbox_from, outbox_to}
use Rattle.board.specs.Tables.{IsMissed, after_edit, after_fence, after_map, after_switch, edit_answer, map_answer, own_asid, switch_answer}
use Rattle.harts.specs.declared.live_reply.LiveReply.{LiveReply}
use Rattle.harts.specs.declared.live_reply.LiveReply.TheVariants.{Translated, Replied, Timeout}

-- the replies that tell what a call of the port answered: a translation, a step of mapping, a call
-- that opens a ticket, one that returns no value, a service, and one that says how far a ticket is
abbrev pub translation_reply : Result ℕ Trap → LiveReply
translation_reply (Ok pa) = Translated pa
translation_reply (Err trap) = Replied (reply.Trap trap)

abbrev pub map_reply : Result Mapped Refusal → LiveReply
map_reply (Ok (mapped.Table ppn)) = Replied (reply.Table ppn)
map_reply (Ok mapped.Leaf) = Replied reply.Leaf
map_reply (Err refusal) = Replied (reply.Refused refusal)

abbrev pub opening_reply : Result ℕ Refusal → LiveReply
opening_reply (Ok ticket) = Replied (reply.Opened ticket)
opening_reply (Err refusal) = Replied (reply.Refused refusal)

abbrev pub call_reply : Result (Unit {0}) Refusal → LiveReply
call_reply (Ok done) = Replied reply.Ok
call_reply (Err refusal) = Replied (reply.Refused refusal)

abbrev pub service_reply : Result Request Refusal → LiveReply
service_reply (Ok request) = Replied (reply.Taken request)
service_reply (Err refusal) = Replied (reply.Refused refusal)

abbrev pub collection_reply : Result Collected Refusal → LiveReply
collection_reply (Ok collected.Done) = Replied reply.Done
collection_reply (Ok (collected.Waiting harts)) = Replied (reply.Waiting harts)
collection_reply (Err refusal) = Replied (reply.Refused refusal)

-- the port translates: an address that is not canonical traps, an entry of the TLB that matches
-- answers, and else a walk does
pub record Translates (va : ℕ) (access : Access) (ctx : Ctx) (port after : PortState)
    (reply : LiveReply) : Type 0 where
  pub answer : Result ℕ Trap
  pub is : reply ≡ translation_reply answer
  pub not_canonical : ¬ IsCanonical port.setup.layout.scheme va
      → (answer ≡ Err (page_trap access NotCanonical)) × (after ≡ port)
  pub hit : (entry : Entry) → IsCanonical port.setup.layout.scheme va
      → first_match port.tlb.entries (own_asid port) va ≡ Some entry
      → (answer ≡ answer_of entry va access ctx) × (after ≡ port)
  pub miss : IsCanonical port.setup.layout.scheme va
      → first_match port.tlb.entries (own_asid port) va ≡ None
      → IsMissed port va access ctx answer after

-- the port posts: what refuses a post, or `Full` where its end knows of no free place, and else the
-- request is in the ring
pub record Posts (ticket to : ℕ) (port after : PortState) (reply : LiveReply) : Type 0 where
  pub answer : Result (Unit {0}) Refusal
  pub is : reply ≡ call_reply answer
  pub refused : (refusal : Refusal) → post_refusal port ticket to ≡ Some refusal
      → answer ≡ Err refusal
  pub full : post_refusal port ticket to ≡ None
      → IfErr answer (λ refusal. (refusal ≡ Full) × (known_room (outbox_to port to) ≡ 0))
  pub accepted : IfOk answer (λ _. after
      ≡ after_post port ticket to (known_room (outbox_to after to)))
  pub unchanged : IfErr answer (λ _. after ≡ after_no_post port ticket to)

-- the port serves: `Empty` only where its end knows of no request that waits, and else the oldest
pub record Serves (from : ℕ) (port after : PortState) (reply : LiveReply) : Type 0 where
  pub answer : Result Request Refusal
  pub is : reply ≡ service_reply answer
  pub no_hart : are_pair port.setup port.hart from ≡ false → answer ≡ Err NoHart
  pub empty : are_pair port.setup port.hart from ≡ true
      → IfErr answer (λ refusal. (refusal ≡ Empty) × (known_waiting (inbox_from port from) ≡ []))
  pub taken : IfOk answer (λ request.
      (after ≡ after_serve port from request (known_waiting (inbox_from after from)))
      × IsPrefix (known_waiting (inbox_from port from))
      (request ∷ known_waiting (inbox_from after from)))
  pub unchanged : IfErr answer (λ _. after ≡ port)

-- the port looks for the acknowledgements of a ticket
pub record Collects (ticket : ℕ) (port after : PortState) (reply : LiveReply) : Type 0 where
  pub answer : Result Collected Refusal
  pub is : reply ≡ collection_reply answer
  pub not_open : is_open port.tickets ticket ≡ false → (answer ≡ Err NotOpen) × (after ≡ port)
  pub found : is_open port.tickets ticket ≡ true
      → (answer ≡ Ok (progress_at after.tickets ticket))
      × IsCollected port ticket port.setup.harts after

-- the port serves once from each hart below a bound, the lowest first; of its own number that is
-- refused
unfoldable pub ServesBelow : ℕ → PortState → PortState → Type 0
ServesBelow zero port after = after ≡ port
ServesBelow (suc from) port after =
    (before : PortState) × ServesBelow from port before
    × ((reply : LiveReply) × Serves from before after reply)

-- one turn of a wait: the port serves, and then looks for the acknowledgements of the ticket
abbrev pub TakesTurn : (harts ticket : ℕ) → PortState → PortState → LiveReply → Type 0
TakesTurn harts ticket port after reply =
    (served : PortState) × ServesBelow harts port served × Collects ticket served after reply

abbrev pub is_waiting : LiveReply → Bool
is_waiting (Replied (reply.Waiting harts)) = true
is_waiting _ = false

-- so many turns found that the ticket is not done
unfoldable pub TakesTurns : (harts ticket turns : ℕ) → PortState → PortState → Type 0
TakesTurns harts ticket zero port after = after ≡ port
TakesTurns harts ticket (suc turns) port after =
    (before : PortState) × TakesTurns harts ticket turns port before
    × ((reply : LiveReply) × TakesTurn harts ticket before after reply × (is_waiting reply ≡ true))

-- the last turn of a wait found the ticket done or not open
pub record EndsWait (harts turns ticket : ℕ) (port after : PortState) (reply : LiveReply)
    : Type 0 where
  pub taken : ℕ
  pub few : taken < turns
  pub before : PortState
  pub turns_before : TakesTurns harts ticket taken port before
  pub last : TakesTurn harts ticket before after reply
  pub ended : is_waiting reply ≡ false

-- a wait ends with such a turn, or with its last one, and answers `Timeout` then
abbrev pub Waits : (harts turns ticket : ℕ) → PortState → PortState → LiveReply → Type 0
Waits harts turns ticket port after reply =
    EndsWait harts turns ticket port after reply
    ⊎ ((reply ≡ Timeout) × TakesTurns harts ticket turns port after)

-- what the port is after a step, and the step's reply, where there are so many harts and a wait takes
-- at most so many turns
unfoldable pub Performs : (harts turns : ℕ) → LiveStep → PortState → PortState → LiveReply → Type 0
Performs harts turns (live_step.Translate va access ctx) port after reply =
    Translates va access ctx port after reply
Performs harts turns (live_step.Map place page ppn flags) port after reply =
    (reply ≡ map_reply (map_answer port (wish.Map place page ppn flags)))
    × (after ≡ after_map port (wish.Map place page ppn flags))
Performs harts turns (live_step.Unmap place page named) port after reply =
    (reply ≡ opening_reply (edit_answer port (wish.Unmap place page) named))
    × (after ≡ after_edit port (wish.Unmap place page) named)
Performs harts turns (live_step.Protect place page flags named) port after reply =
    (reply ≡ opening_reply (edit_answer port (wish.Protect place page flags) named))
    × (after ≡ after_edit port (wish.Protect place page flags) named)
Performs harts turns (live_step.Flush scope named) port after reply =
    (reply ≡ opening_reply (flush_answer port scope named)) × (after ≡ after_flush port scope named)
Performs harts turns (live_step.Switch space) port after reply =
    (reply ≡ call_reply (switch_answer port space)) × (after ≡ after_switch port space)
Performs harts turns (live_step.Fence rs1 rs2) port after reply =
    (reply ≡ call_reply (Ok tt)) × (after ≡ after_fence port rs1 rs2)
Performs harts turns (live_step.Post ticket to) port after reply = Posts ticket to port after reply
Performs harts turns (live_step.Serve from) port after reply = Serves from port after reply
Performs harts turns (live_step.AckSelf ticket) port after reply =
    (reply ≡ collection_reply (ack_self_answer port ticket)) × (after ≡ after_ack_self port ticket)
Performs harts turns (live_step.Collect ticket) port after reply = Collects ticket port after reply
Performs harts turns (live_step.Finish ticket) port after reply =
    (reply ≡ call_reply (finish_answer port ticket)) × (after ≡ after_finish_of port ticket)
Performs harts turns (live_step.Close to) port after reply =
    (reply ≡ call_reply (close_answer port to)) × (after ≡ after_close_to port to)
Performs harts turns (live_step.Wait ticket) port after reply =
    Waits harts turns ticket port after reply
