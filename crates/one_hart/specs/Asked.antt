-- What calls of the port of hart 0 are to a machine: the events of that hart, each answered as is due
-- after the turns before it.
use Rattle.std.specs.Prelude.{ℕ, zero, suc, not, List, [], ◌∷◌, if◌then◌else◌}
use Rattle.pte.specs.Address.{level_count, widest}
use Rattle.shoot.specs.Tickets.{is_open, progress_at}
use Rattle.history.specs.Setup.{Setup, is_hart}
use Rattle.history.specs.Turns.{History, is_more, with_turn}
use Rattle.history.specs.declared.event.Event.{Event}
use Rattle.history.specs.declared.event.Event.TheVariants as event
use Rattle.history.specs.declared.refusal.Refusal.TheVariants.{NoHart, NotOpen}
use Rattle.history.specs.declared.reply.Reply.{Reply}
use Rattle.history.specs.Due.{due, first_of, when}
use Rattle.stepcore.specs.Answers.{progress_reply}
use Rattle.stepcore.specs.Stands.{tickets_of}
use Rattle.one_hart.specs.declared.call.Call.{Call}
use Rattle.one_hart.specs.declared.call.Call.TheVariants as call
use Rattle.one_hart.specs.Answering.{heard}

-- the last reply, and the history with all turns
pub record Turned : Type 0 where
  pub reply : Reply
  pub history : History

-- one event, which is answered as is due
abbrev pub turned : Setup → Event → History → Turned
turned setup event history = record {
  reply = due setup history event;
  history = with_turn event (due setup history event) history;
}

-- hart 0 loads if its walk goes on; and this many times at most
abbrev pub load_on : Setup → Turned → Turned
load_on setup last =
    if is_more last.reply then turned setup (event.Load 0) last.history else last

unfoldable pub loaded : ℕ → Setup → Turned → Turned
loaded zero setup last = last
loaded (suc loads) setup last = loaded loads setup (load_on setup last)

-- how far a ticket of hart 0 is. Its machine has no other harts whose acknowledgements an event could
-- collect.
abbrev pub progress_due : Setup → History → ℕ → Reply
progress_due setup history ticket =
    first_of (
    when (not (is_hart setup 0)) NoHart
    ∷ when (not (is_open (tickets_of setup history 0) ticket)) NotOpen ∷ [])
    (progress_reply (progress_at (tickets_of setup history 0) ticket))

-- the events of a call: a translation begins an access and loads while its walk goes on, a look for
-- acknowledgements is none, and each other call is the event of its name
abbrev pub asked : Setup → Call → History → Turned
asked setup (call.Translate va access ctx) history =
    loaded (level_count widest) setup (turned setup (event.Begin 0 va access ctx) history)
asked setup (call.Map place page ppn flags) history =
    turned setup (event.Map 0 place page ppn flags) history
asked setup (call.Unmap place page named) history =
    turned setup (event.Unmap 0 place page named) history
asked setup (call.Protect place page flags named) history =
    turned setup (event.Protect 0 place page flags named) history
asked setup (call.Flush scope named) history = turned setup (event.Flush 0 scope named) history
asked setup (call.Switch space) history = turned setup (event.Switch 0 space) history
asked setup (call.Fence rs1 rs2) history = turned setup (event.Fence 0 rs1 rs2) history
asked setup (call.Post ticket to) history = turned setup (event.Post 0 ticket to) history
asked setup (call.Serve from) history = turned setup (event.Take 0 from) history
asked setup (call.AckSelf ticket) history = turned setup (event.AckSelf 0 ticket) history
asked setup (call.Collect ticket) history =
    record { reply = progress_due setup history ticket; history = history }
asked setup (call.Finish ticket) history = turned setup (event.Finish 0 ticket) history
asked setup (call.CloseTo to) history = turned setup (event.Close 0 to) history

-- the answers to a list of calls, and the history with all of their turns
abbrev pub answers_due : Setup → History → List Call → List Reply
answers_due setup history [] = []
answers_due setup history (call ∷ calls) =
    heard (asked setup call history).reply
    ∷ answers_due setup (asked setup call history).history calls

abbrev pub history_due : Setup → History → List Call → History
history_due setup history [] = history
history_due setup history (call ∷ calls) =
    history_due setup (asked setup call history).history calls
