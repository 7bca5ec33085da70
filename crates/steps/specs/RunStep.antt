-- The steps of `run` that texts write. A step names its hart first; the second word says what the
-- hart does.
use Rattle.std.specs.Prelude.{ℕ, List, Option, Result}
use Rattle.std.specs.Result.{result_ok}
use Rattle.pte.specs.declared.scheme.Scheme.{Scheme}
use Rattle.pte.specs.declared.TheConstants.{MAX_HARTS}
use Rattle.history.specs.declared.event.Event.{Event}
use Rattle.steps.specs.declared.fault.StepFault.{StepFault}
use Rattle.steps.specs.Reading.{read_hart, read_step}
use Rattle.steps.specs.Table.{event_of, run_fields}
use Rattle.steps.specs.Words.{words_of}

-- what a text writes in a scheme, for a number of harts: an event, or what is wrong with it
abbrev pub step_among : Scheme → ℕ → List ℕ → Result Event StepFault
step_among scheme harts text =
    read_hart scheme harts (read_step run_fields event_of scheme harts) (words_of text)

-- what a text writes for as many harts as there may be
abbrev pub run_step_of : Scheme → List ℕ → Option Event
run_step_of scheme text = result_ok (step_among scheme MAX_HARTS text)
