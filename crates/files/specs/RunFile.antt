-- The scenario that a text for `run` is, or its first fault.
use Rattle.std.specs.Prelude.{ℕ, List, Result, Ok, Err, if◌then◌else◌}
use Rattle.std.specs.Option.{ok_or}
use Rattle.std.specs.Str.{is_utf8}
use Rattle.toml.specs.Data.{Members}
use Rattle.toml.specs.Parse.{parse_document}
use Rattle.pte.specs.declared.scheme.Scheme.{Scheme}
use Rattle.spaces.specs.declared.configuration.Config.{Config}
use Rattle.spaces.specs.declared.configuration.TheConstants.{MAX_FRAMES}
use Rattle.history.specs.declared.event.Event.{Event}
use Rattle.files.specs.declared.plan.RunScenario.{RunScenario}
use Rattle.files.specs.Faults.{Failure, not_toml, ◌>>=◌}
use Rattle.files.specs.KeyTable.{names_of}
use Rattle.files.specs.declared.key_table.Command.TheVariants.{Run}
use Rattle.files.specs.declared.key_table.Key.TheVariants as keys
use Rattle.files.specs.Keys.{known_only, texts_at}
use Rattle.files.specs.Settings.{checked, config_at, mode_at}
use Rattle.files.specs.StepTexts.{events_in, few}

-- what the harts begin with, and their steps in order
pub record RunPlan : Type 0 where
  pub config : Config
  pub events : List Event

abbrev pub run_view : RunScenario → RunPlan
run_view s = record { config = s.config; events = s.events.items }

abbrev pub in_scheme : Scheme → Config → Config
in_scheme scheme config = record config { scheme = scheme }

-- the whole, in the order of checking
unfoldable pub run_plan_of : Members → Result RunPlan Failure
run_plan_of ms = do
  _ ← known_only (names_of Run) ms
  config ← config_at ms
  texts ← texts_at keys.Steps ms
  scheme ← mode_at ms
  _ ← checked MAX_FRAMES (in_scheme scheme config)
  _ ← few texts
  events ← events_in scheme config.harts texts
  Ok (record { config = in_scheme scheme config; events = events })

unfoldable pub run_scenario_of : List ℕ → Result RunPlan Failure
run_scenario_of text = ok_or (parse_document text) not_toml >>= run_plan_of

-- what the bytes of a file are: UTF-8 whose text is a scenario, or the first fault
abbrev pub run_file : List ℕ → Result RunPlan Failure
run_file bytes = if is_utf8 bytes then run_scenario_of bytes else Err not_toml
