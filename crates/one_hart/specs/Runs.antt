-- What calls are to a run of a machine's events.
use Rattle.std.specs.Prelude.{◌≡◌, Bool, true, false, List, [], ◌∷◌}
use Rattle.history.specs.Setup.{Setup}
use Rattle.history.specs.Turns.{History}
use Rattle.history.specs.Runs.{due_replies}
use Rattle.history.specs.declared.event.Event.{Event}
use Rattle.history.specs.declared.reply.Reply.{Reply}
use Rattle.stepcore.specs.Runs.{with_turns}
use Rattle.one_hart.specs.declared.call.Call.{Call}
use Rattle.one_hart.specs.declared.call.Call.TheVariants.{Collect}
use Rattle.one_hart.specs.Asked.{asked}

-- the last of replies, or else this one
abbrev pub last_or : Reply → List Reply → Reply
last_or other [] = other
last_or other (reply ∷ replies) = last_or reply replies

-- the call looks for acknowledgements
abbrev pub is_look : Call → Bool
is_look (Collect ticket) = true
is_look _ = false

-- a call is a run of events: the history after it is that after the run, in which each event has the
-- reply that is due to it, and the last of these replies, of which there is one but for a look, is
-- that of the call
pub record IsRun (setup : Setup) (history : History) (call : Call) : Type 0 where
  pub events : List Event
  pub history_is : (asked setup call history).history
      ≡ with_turns events (due_replies setup history events) history
  pub reply_is : (other : Reply) → is_look call ≡ false
      → (asked setup call history).reply ≡ last_or other (due_replies setup history events)

abbrev pub EachCallIsARun : Type 0
EachCallIsARun = (setup : Setup) (history : History) (call : Call) → IsRun setup history call
