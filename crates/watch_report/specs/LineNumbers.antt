-- The lines that are kept of records.
use Rattle.std.specs.Prelude.{ℕ, ◌≡◌, ◌≤◌, ◌<◌, ◌+◌, ◌-◌, ◌%◌, ◌^◌, nat_le, zero, suc, List, [], ◌∷◌, get_or, length, if◌then◌else◌}
use Rattle.std.specs.List.Sorted.{IsNonDecreasingBy, IsPartitionPoint}
use Rattle.watch_report.specs.declared.lines.Lines.{Lines}
use Rattle.watch_report.specs.declared.lines.Run.{Run}
use Rattle.watch_report.specs.TraceText.{Noted, line_at}

-- the line of a record of a run, in 64 bits
unfoldable pub line_from : Run → ℕ → ℕ
line_from run number = (run.line + (number - run.first)) % 2 ^ 64

-- by the last run that begins at the record or before it, or else what was found
abbrev pub line_by : ℕ → List Run → ℕ → ℕ
line_by found [] number = found
line_by found (run ∷ runs) number =
    line_by (if nat_le run.first number then line_from run number else found) runs number

-- the first so many runs, and no others, begin at the record or before it
abbrev pub EndsBefore : ℕ → List Run → ℕ → Type 0
EndsBefore number runs place =
    IsPartitionPoint (λ (r : Run). r.first ≤ number) (λ (r : Run). number < r.first) runs place

-- the line of a record of the last of so many runs
abbrev pub behind : Run → List Run → ℕ → ℕ → ℕ
behind d runs zero number = 0
behind d runs (suc place) number = line_from (get_or runs place d) number

-- so many records stand on these runs of lines
pub record AreRuns (records : List Noted) (count : ℕ) (runs : List Run) : Type 0 where
  pub count_is : count ≡ length records
  pub order : IsNonDecreasingBy (λ (r : Run). r.first) runs
  pub within : (n : ℕ) (d : Run) → n < length runs → (get_or runs n d).first ≤ length records
  pub line : (number : ℕ) → 0 < number → number ≤ length records
      → line_by 0 runs number ≡ line_at records number

-- the next line is the one right behind the last run, if there is one
abbrev pub IsNext : ℕ → ℕ → List Run → Type 0
IsNext next count runs = (d : Run) → 0 < length runs → next ≡ behind d runs (length runs) (count + 1)

-- these are the lines of the records
pub record AreLines (records : List Noted) (lines : Lines) : Type 0 where
  pub runs : AreRuns records lines.count lines.runs.items
  pub next : IsNext lines.next lines.count lines.runs.items
