-- The history of a run whose every reply was the one that was due.
use Rattle.std.specs.Prelude.{List, []}
use Rattle.history.specs.declared.event.Event.{Event}
use Rattle.history.specs.Setup.{Setup}
use Rattle.history.specs.Turns.{History}
use Rattle.history.specs.Runs.{due_replies}
use Rattle.stepcore.specs.Runs.{with_turns}

-- the history once these events, from the first on, had their due replies
abbrev pub due_history : Setup → List Event → History
due_history setup events = with_turns events (due_replies setup [] events) []
