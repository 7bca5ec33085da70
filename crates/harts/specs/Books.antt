-- A history as a book keeps it, each event with its reply, the oldest first.
use Rattle.std.specs.Prelude.{◌≡◌, List, [], ◌∷◌}
use Rattle.history.specs.declared.event.Event.{Event}
use Rattle.history.specs.declared.reply.Reply.{Reply}
use Rattle.history.specs.Setup.{Setup}
use Rattle.history.specs.Turns.{History}
use Rattle.history.specs.Runs.{with_turn}
use Rattle.history.specs.Due.{Lawful, due}
use Rattle.laws.specs.Kept.{HavePages}

-- what is kept, on top of a history; and as a history of its own
abbrev pub kept_on : List (Event × Reply) → History → History
kept_on [] history = history
kept_on (turn ∷ turns) history = kept_on turns (with_turn turn.0 turn.1 history)

abbrev pub history_of : List (Event × Reply) → History
history_of turns = kept_on turns []

-- the reply is due to the event after some lawful history, whose events speak of pages
abbrev pub IsDueAfterSome : Setup → Event → Reply → Type 0
IsDueAfterSome setup event reply =
    (history : History) × Lawful setup history × HavePages history
    × (reply ≡ due setup history event)
