-- The steps of `live` that texts write. A line of a script says what the script's hart does; a line
-- of the setup names its hart first.
use Rattle.std.specs.Prelude.{ℕ, List, Result, Ok}
use Rattle.pte.specs.declared.scheme.Scheme.{Scheme}
use Rattle.history.specs.declared.live_step.LiveStep.{LiveStep}
use Rattle.steps.specs.declared.fault.StepFault.{StepFault}
use Rattle.steps.specs.declared.parts.Parts.{Parts}
use Rattle.steps.specs.Reading.{read_hart, read_step}
use Rattle.steps.specs.StepFaults.{◌>>=◌}
use Rattle.steps.specs.Table.{live_fields, live_of, nothing}
use Rattle.steps.specs.Words.{words_of}

-- the step that words say, with the parts before them
abbrev pub live_words : Scheme → ℕ → List (List ℕ) → Parts → Result LiveStep StepFault
live_words scheme harts words p = read_step live_fields live_of scheme harts words p

-- the same, and the hart that makes it
abbrev pub setup_words : Scheme → ℕ → List (List ℕ) → Parts → Result (ℕ × LiveStep) StepFault
setup_words scheme harts words p = live_words scheme harts words p >>= λ step. Ok (p.hart, step)

-- what a line of a script writes in a scheme, for a number of harts: a step, or what is wrong with
-- it
abbrev pub live_step_in : Scheme → ℕ → List ℕ → Result LiveStep StepFault
live_step_in scheme harts text = live_words scheme harts (words_of text) nothing

-- what a line of the setup writes: a hart and its step
abbrev pub setup_step_in : Scheme → ℕ → List ℕ → Result (ℕ × LiveStep) StepFault
setup_step_in scheme harts text =
    read_hart scheme harts (setup_words scheme harts) (words_of text)
