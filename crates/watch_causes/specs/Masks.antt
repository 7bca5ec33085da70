-- The harts that a flush asked for a fence, from the log: its fences are the oldest first.
use Rattle.std.specs.Prelude.{ℕ, Bool, if◌then◌else◌, bit_or, List, [], ◌∷◌, Option, Some, None}
use Rattle.std.specs.List.{list_any}
use Rattle.watch.specs.Trace.{hart_of}
use Rattle.watch_engine.specs.declared.warning.Warning.{Warning}
use Rattle.watch_causes.specs.declared.log.Numbered.{Numbered}
use Rattle.watch_causes.specs.Fenced.{harts_of}
use Rattle.watch_causes.specs.Logs.{last_after}
use Rattle.watch_causes.specs.Reasons.{asks_others, is_asked}

-- with the harts of those that were asked for
abbrev pub asked_from : Bool → ℕ → ℕ → ℕ → List Numbered → ℕ
asked_from others flusher hart harts [] = harts
asked_from others flusher hart harts (n ∷ fences) =
    asked_from others flusher hart
    (if is_asked others flusher hart n.made then bit_or (harts_of n.made) harts else harts) fences

abbrev pub mask_in : ℕ → ℕ → List Numbered → ℕ
mask_in flusher hart fences =
    asked_from (list_any (λ n. asks_others flusher n.made) fences) flusher hart 0 fences

-- by the begin of a flush
abbrev pub fenced_from : Warning → List Numbered → Option Numbered → ℕ
fenced_from w fences None = 0
fenced_from w fences (Some flush) =
    mask_in (hart_of flush.made) w.hart (last_after flush.number fences)
