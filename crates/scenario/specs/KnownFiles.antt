-- What is read of a list of what is known to be by design.
use Rattle.std.specs.Prelude.{◌≡◌, ℕ, ◌≤◌, ◌<◌, List, length, map, Option, None, Some, Result, Ok, Err, Vec}
use Rattle.std.specs.declared.alloc.Global.{Global}
use Rattle.scenario.specs.declared.trouble.Trouble.{Trouble}
use Rattle.scenario.specs.Command.{Ending, ending_of, no_memory, too_large, unreadable, wrong_entry}
use Rattle.scenario.specs.Input.{AreLeft}
use Rattle.scenario.specs.Limits.{most_bytes}
use Rattle.watch_causes.specs.declared.known.Known.{Known}
use Rattle.watch_causes.specs.KnownFindings.{KnownEntry, known_entry}
use Rattle.watch_report.specs.KnownTexts.{known_in_text}

-- the entries, or how the command ends without them
abbrev pub entries_view : Result (Vec Known Global) Trouble → Result (List KnownEntry) Ending
entries_view (Ok entries) = Ok (map known_entry entries.items)
entries_view (Err trouble) = Err (ending_of trouble)

-- of a list of these bytes, which may be unreadable, and for which memory may run out
abbrev pub ReadsAs : List ℕ → Result (List KnownEntry) Ending → Type 0
ReadsAs bytes (Ok entries) = (length bytes ≤ most_bytes) × (known_in_text bytes ≡ Ok entries)
ReadsAs bytes (Err too_large) = most_bytes < length bytes
ReadsAs bytes (Err (wrong_entry fault)) =
    (length bytes ≤ most_bytes) × (known_in_text bytes ≡ Err fault)
ReadsAs bytes (Err unreadable) = Unit {0}
ReadsAs bytes (Err no_memory) = Unit {0}
ReadsAs bytes (Err _) = ⊥

-- of what a reader has; without one the list is unreadable
abbrev pub ReadsList : {L : Type 0} → (L → Option (List ℕ)) → Option L → Result (List KnownEntry) Ending
    → Type 0
ReadsList remaining None entries = entries ≡ Err unreadable
ReadsList remaining (Some reader) entries =
    (bytes : List ℕ) × AreLeft (remaining reader) bytes × ReadsAs bytes entries
