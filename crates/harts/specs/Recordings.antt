-- What lies under the lock of a machine that names nothing.
use Rattle.std.specs.Prelude.{List}
use Rattle.history.specs.Setup.{setup_of}
use Rattle.history.specs.declared.event.Event.{Event}
use Rattle.history.specs.declared.reply.Reply.{Reply}
use Rattle.spaces.specs.declared.configuration.Config.{Config}
use Rattle.harts.specs.Books.{IsDueAfterSome}

-- what a machine was opened with, and its events with their replies, the oldest first
pub record Recording : Type 0 where
  pub config : Config
  pub turns : List (Event × Reply)

-- under some configuration the reply is due to the event after some lawful history
abbrev pub IsDueUnderSome : Event → Reply → Type 0
IsDueUnderSome event reply =
    (config : Config) × IsDueAfterSome (setup_of config) event reply
