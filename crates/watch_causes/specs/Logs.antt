-- The log of a trace: its fences and the begins of its flushes, each with its number.
use Rattle.std.specs.Prelude.{ℕ, Bool, true, false, ◌≡◌, ◌-◌, ◌&&◌, not, nat_lt, if◌then◌else◌}
use Rattle.std.specs.Prelude.{List, [], ◌∷◌, Option, Some, None, drop, find, length, map, reverse}
use Rattle.std.specs.List.{list_any, suffix_len}
use Rattle.pte.specs.declared.scheme.Scheme.{Scheme}
use Rattle.tlb.specs.declared.store.Entry.{Entry}
use Rattle.watch.specs.declared.trace.Record.{Record}
use Rattle.watch.specs.declared.trace.Record.TheVariants.{Fence, RemoteBegin, ClaimBegin, ClaimEnd}
use Rattle.watch.specs.Trace.{Trace, begins_claim, hart_of}
use Rattle.watch_engine.specs.declared.warning.Warning.{Warning}
use Rattle.watch_engine.specs.Warnings.{shown_of}
use Rattle.watch_causes.specs.declared.log.Numbered.{Numbered}
use Rattle.watch_causes.specs.declared.log.Log.{Log}
use Rattle.watch_causes.specs.declared.reason.Reason.{Reason}
use Rattle.watch_causes.specs.declared.reason.Reason.TheVariants.{NoFlush, NoFence, OtherHarts, OtherSpaces, OtherPages, NotDone}
use Rattle.watch_causes.specs.Reasons.{asks_others, begins_flush_of, covers, is_asked, is_for, is_of_space}

abbrev pub asks_for_fence : Record → Bool
asks_for_fence (Fence hart rs1 rs2) = true
asks_for_fence (RemoteBegin hart token fence) = true
asks_for_fence _ = false

abbrev pub begins_flush : Record → Bool
begins_flush (ClaimBegin hart token claim) = true
begins_flush _ = false

-- the records that pass the test, the newest first; the oldest of the trace has the number 1
abbrev pub numbered : (Record → Bool) → Trace → List Numbered
numbered test [] = []
numbered test (newest ∷ trace) =
    if test newest
    then record { number = length (newest ∷ trace); made = newest } ∷ numbered test trace
    else numbered test trace

-- the log has those of the trace, the oldest first
pub record Follows (trace : Trace) (log : Log) : Type 0 where
  pub count : log.count ≡ length trace
  pub fences : log.fences.items ≡ reverse (numbered asks_for_fence trace)
  pub flushes : log.flushes.items ≡ reverse (numbered begins_flush trace)

-- it was made after the first so many records
abbrev pub is_after : ℕ → Numbered → Bool
is_after count n = nat_lt count n.number

-- those at the end of the list that were
abbrev pub last_after : ℕ → List Numbered → List Numbered
last_after count ns = drop (length ns - suffix_len (is_after count) ns) ns

abbrev pub records : List Numbered → List Record
records ns = map (λ n. n.made) ns

-- the newest that passes the test
abbrev pub newest_in : (Record → Bool) → List Numbered → Option Numbered
newest_in test ns = find (λ n. test n.made) (reverse ns)

-- ---- the reason, from the log

-- of these fences, one that the flush of a hart asked for, for another, passes the test; by whether it
-- asked others
unfoldable pub some_asked : Bool → ℕ → ℕ → (Record → Bool) → List Numbered → Bool
some_asked others flusher hart test fences =
    list_any (λ f. is_asked others flusher hart f.made && test f.made) fences

abbrev pub by_tests : Bool → Bool → Bool → Bool → Reason
by_tests some here of_space of_page =
    if not some then NoFence
    else if not here then OtherHarts
    else if not of_space then OtherSpaces
    else if not of_page then OtherPages
    else NotDone

abbrev pub by_asked : Scheme → Bool → ℕ → ℕ → Entry → List Numbered → Reason
by_asked scheme others flusher hart e fences =
    by_tests (list_any (λ f. is_asked others flusher hart f.made) fences)
    (some_asked others flusher hart (is_for hart) fences)
    (some_asked others flusher hart (λ f. is_for hart f && is_of_space scheme e f) fences)
    (some_asked others flusher hart (λ f. is_for hart f && covers scheme e f) fences)

unfoldable pub reason_in : Scheme → ℕ → ℕ → Entry → List Numbered → Reason
reason_in scheme flusher hart e fences =
    by_asked scheme (list_any (λ f. asks_others flusher f.made) fences) flusher hart e fences

abbrev pub reason_from : Scheme → Warning → List Numbered → Option Numbered → Reason
reason_from scheme w fences None = NoFlush
reason_from scheme w fences (Some flush) =
    reason_in scheme (hart_of flush.made) w.hart w.entry (last_after flush.number fences)

abbrev pub flush_in : Record → Warning → List Numbered → Option Numbered
flush_in (ClaimEnd of token) w flushes = newest_in (begins_claim token) flushes
flush_in newest w flushes =
    newest_in (begins_flush_of (shown_of w)) (last_after w.stale_since flushes)
