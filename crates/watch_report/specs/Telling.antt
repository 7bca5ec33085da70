-- What is kept for what is told.
use Rattle.std.specs.Prelude.{◌≡◌, List}
use Rattle.pte.specs.declared.scheme.Scheme.{Scheme}
use Rattle.watch_causes.specs.Causes.{HasSeen}
use Rattle.watch_engine.specs.declared.warning.Warning.{Warning}
use Rattle.watch_report.specs.declared.detail.Detail.TheVariants.{Causes, Counts, Verdicts}
use Rattle.watch_report.specs.declared.options.Options.{Options}
use Rattle.watch_report.specs.declared.telling.Kept.{Kept}
use Rattle.watch_report.specs.declared.telling.Kept.TheVariants as kept
use Rattle.watch_report.specs.declared.telling.Telling.{Telling}
use Rattle.watch_report.specs.Forms.{left_after}
use Rattle.watch_report.specs.TraceText.{Noted, trace_of}
use Rattle.watch_report.specs.VerdictLines.{verdicts_in}

-- this is kept after the records and the warnings at each: how many verdicts are left to tell, or the
-- causes, where these are told
abbrev pub IsKept : Options → Scheme → List Noted → List (List Warning) → Kept → Type 0
IsKept options scheme records given (kept.Verdicts left) =
    (options.detail ≡ Verdicts) × (left ≡ left_after options.most (verdicts_in given))
IsKept options scheme records given (kept.Causes causes) =
    (options.detail ≡ Causes) × (causes.scheme ≡ scheme) × HasSeen (trace_of records) given causes
IsKept options scheme records given kept.Counts = options.detail ≡ Counts

-- with the options
abbrev pub IsTelling : Options → Scheme → List Noted → List (List Warning) → Telling → Type 0
IsTelling options scheme records given telling =
    (telling.options ≡ options) × IsKept options scheme records given telling.kept
