-- The scenario that a text for `live` is, or its first fault.
use Rattle.std.specs.Prelude.{ℕ, ℤ, pos, negsuc, ◌+◌, ◌^◌, ◌==◌, List, [], length, map, Option, None, option_and_then, Result, Ok, Err, if◌then◌else◌, Vec}
use Rattle.std.specs.declared.alloc.Global.{Global}
use denote.Ref.{Bor}
use Rattle.std.specs.List.{sum_by}
use Rattle.std.specs.Option.{ok_or}
use Rattle.std.specs.Str.{is_utf8}
use Rattle.toml.specs.Data.{Data, as_array, as_integer, Members}
use Rattle.toml.specs.Parse.{parse_document}
use Rattle.spaces.specs.declared.configuration.Config.{Config}
use Rattle.spaces.specs.declared.configuration.TheConstants.{MAX_LIVE_FRAMES}
use Rattle.history.specs.declared.live_step.LiveStep.{LiveStep}
use Rattle.files.specs.Faults.{Failure, not_toml, ◌>>=◌}
use Rattle.files.specs.KeyTable.{default_turns, names_of}
use Rattle.files.specs.declared.key_table.Command.TheVariants.{Live}
use Rattle.files.specs.declared.key_table.Key.TheVariants as keys
use Rattle.files.specs.Keys.{below, each, known_only, listed, text_views, texts_at, texts_of, value_at}
use Rattle.files.specs.Settings.{at_most, checked, config_at, mode_at}
use Rattle.files.specs.declared.plan.LiveScenario.{LiveScenario}
use Rattle.files.specs.RunFile.{in_scheme}
use Rattle.files.specs.StepTexts.{few_of, scripts_in, setup_steps_in}

-- what the harts begin with, the steps that are made before they run, each with its hart, the
-- script of each hart from 0, and the most turns of a wait
pub record LivePlan : Type 0 where
  pub config : Config
  pub setup : List (ℕ × LiveStep)
  pub scripts : List (List LiveStep)
  pub turns : ℕ

abbrev pub scripts_view : Vec (Vec LiveStep Global) Global → List (List LiveStep)
scripts_view v = map (λ steps. steps.items) v.items

abbrev pub live_view : LiveScenario → LivePlan
live_view s =
    record {
      config = s.config;
      setup = s.setup.items;
      scripts = scripts_view s.scripts;
      turns = s.turns;
    }

-- ---- the scripts and the turns

-- the texts of each array, of which there are no more than harts
abbrev pub few_scripts : ℕ → List Data → Option (List (List (List ℕ)))
few_scripts harts ds = option_and_then (each texts_of) (at_most harts ds)

abbrev pub scripts_of : ℕ → Data → Option (List (List (List ℕ)))
scripts_of harts d = option_and_then (λ ds. few_scripts harts (listed ds)) (as_array d)

abbrev pub scripts_at : ℕ → Members → Result (List (List (List ℕ))) Failure
scripts_at harts ms = value_at keys.Scripts [] (scripts_of harts) ms

-- the texts that references point to
abbrev pub script_views : Vec (Vec (Bor (List ℕ)) Global) Global → List (List (List ℕ))
script_views v = map text_views v.items

-- a whole number from 1 to 2^32 - 1
abbrev pub positive : ℤ → Option ℕ
positive (pos n) = if n == 0 then None else below (2 ^ 32) n
positive (negsuc n) = None

abbrev pub turns_of : Data → Option ℕ
turns_of d = option_and_then positive (as_integer d)

abbrev pub turns_at : Members → Result ℕ Failure
turns_at ms = value_at keys.Turns default_turns turns_of ms

-- how many steps the setup and the scripts have together
abbrev pub step_count : List (List ℕ) → List (List (List ℕ)) → ℕ
step_count setup scripts = length setup + sum_by length scripts

-- ---- the whole, in the order of checking

unfoldable pub live_plan_of : Members → Result LivePlan Failure
live_plan_of ms = do
  _ ← known_only (names_of Live) ms
  config ← config_at ms
  setup ← texts_at keys.Setup ms
  scripts ← scripts_at config.harts ms
  turns ← turns_at ms
  scheme ← mode_at ms
  _ ← checked MAX_LIVE_FRAMES (in_scheme scheme config)
  _ ← few_of (step_count setup scripts)
  before ← setup_steps_in scheme config.harts setup
  each_hart ← scripts_in scheme config.harts 0 scripts
  Ok (record {
    config = in_scheme scheme config;
    setup = before;
    scripts = each_hart;
    turns = turns;
  })

unfoldable pub live_scenario_of : List ℕ → Result LivePlan Failure
live_scenario_of text = ok_or (parse_document text) not_toml >>= live_plan_of

-- what the bytes of a file are: UTF-8 whose text is a scenario, or the first fault
abbrev pub live_file : List ℕ → Result LivePlan Failure
live_file bytes = if is_utf8 bytes then live_scenario_of bytes else Err not_toml
