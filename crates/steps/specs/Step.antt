-- The step of `walk` that a text writes.
use Rattle.std.specs.Prelude.{List, ℕ, Option, option_map}
use Rattle.std.specs.Result.{result_ok}
use Rattle.pte.specs.declared.scheme.Scheme.TheVariants.{Sv39}
use Rattle.steps.specs.declared.step.WalkStep.{WalkStep}
use Rattle.steps.specs.Reading.{read_each}
use Rattle.steps.specs.Table.{nothing, walk_fields, walk_of}
use Rattle.steps.specs.Words.{words_of}

-- its fields have neither pages nor harts, so that scheme and number of harts are of no account
abbrev pub walk_step_of : List ℕ → Option WalkStep
walk_step_of text =
    option_map walk_of (result_ok (read_each Sv39 0 walk_fields (words_of text) nothing))
