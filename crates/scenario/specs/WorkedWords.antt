-- What command lines that are written out ask for.
use Rattle.std.specs.Prelude.{ℕ, Bool, List, ◌∷◌, codes, Option, Some, None, if◌then◌else◌}
use Rattle.clap.specs.Words.{fault_of, first_of, matches_of}
use Rattle.clap.specs.Walk.{is_empty}
use Rattle.scenario.specs.declared.task.Task.{Task}
use Rattle.watch.specs.declared.trace.Verdict.{Verdict}
use Rattle.watch_report.specs.declared.filter.Filter.{Filter}
use Rattle.watch_report.specs.declared.options.Form.TheVariants.{Json}
use Rattle.watch_report.specs.declared.options.Options.{Options}
use Rattle.watch_report.specs.Filters.{kind_of}
use Rattle.scenario.specs.CommandLine.{Asked, svsim}

abbrev pub asking : Task → List ℕ → Asked
asking task file = record { task = task; file = file; known = None }

-- with a list of what is known
abbrev pub knowing : List ℕ → Asked → Asked
knowing list ask = record ask { known = Some list }

-- in JSON, and so many at most
abbrev pub in_json : Options → Options
in_json options = record options { form = Json }

abbrev pub at_most : ℕ → Options → Options
at_most n options = record options { most = Some n }

-- the verdicts of a hart, on a page and of a kind, of those that the filter takes
abbrev pub of_hart : ℕ → Filter → Filter
of_hart hart filter = record filter { hart = Some hart }

abbrev pub of_page : ℕ → Filter → Filter
of_page address filter = record filter { address = Some address }

abbrev pub of_kind : Bool → Verdict → Filter → Filter
of_kind global verdict filter = record filter { kind = Some (kind_of global verdict) }

-- the text that clap gives to an option of `svsim watch t`
abbrev pub text_taken : List ℕ → List (List ℕ) → Option (List ℕ)
text_taken name options =
    let words = codes "svsim" ∷ codes "watch" ∷ codes "t" ∷ options in
    if is_empty (fault_of svsim words) then first_of name (matches_of svsim words) else None
