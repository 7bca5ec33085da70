-- The replies that are due to a list of events, each after the ones before it.
use Rattle.std.specs.Prelude.{List, [], ◌∷◌}
use Rattle.history.specs.declared.event.Event.{Event}
use Rattle.history.specs.declared.reply.Reply.{Reply}
use Rattle.history.specs.Setup.{Setup}
use Rattle.history.specs.Turns.{History}
pub use Rattle.history.specs.Turns.{with_turn}
use Rattle.history.specs.Due.{due}

abbrev pub due_replies : Setup → History → List Event → List Reply
due_replies setup history [] = []
due_replies setup history (event ∷ events) =
    due setup history event ∷ due_replies setup (with_turn event (due setup history event) history)
    events
