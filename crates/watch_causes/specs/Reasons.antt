-- Why a hart may still hold a translation that the kernel took for gone, by the fences that the
-- kernel's flush asked for. A trace has the newest record first: what stands before a record was
-- made after it.
use Rattle.std.specs.Prelude.{ℕ, Bool, true, false, not, ◌-◌, ◌==◌, ◌&&◌, ◌||◌, if◌then◌else◌}
use Rattle.std.specs.Prelude.{List, Option, Some, None, filter, find, length, take}
use Rattle.std.specs.List.{before_first, list_any}
use Rattle.pte.specs.declared.scheme.Scheme.{Scheme}
use Rattle.tlb.specs.declared.store.Entry.{Entry}
use Rattle.tlb.specs.Fence.{is_fenced}
use Rattle.watch.specs.declared.trace.Record.{Record}
use Rattle.watch.specs.declared.trace.Record.TheVariants.{Fence, RemoteBegin, ClaimBegin, ClaimEnd}
use Rattle.watch.specs.Trace.{Trace, begins_claim, hart_of}
use Rattle.watch.specs.Holding.{Translation, is_covered, names}
use Rattle.watch.specs.Verdicts.{is_claimed}
use Rattle.watch_causes.specs.declared.reason.Reason.{Reason}
use Rattle.watch_causes.specs.declared.reason.Reason.TheVariants.{NoFlush, NoFence, OtherHarts, OtherSpaces, OtherPages, NotDone}
use Rattle.watch_engine.specs.declared.warning.Warning.{Warning}
use Rattle.watch_engine.specs.Warnings.{shown_of}

-- ---- fences

-- the hart executes a fence, or asks others for one
abbrev pub fences_itself : ℕ → Record → Bool
fences_itself hart (Fence of rs1 rs2) = of == hart
fences_itself hart _ = false

abbrev pub asks_others : ℕ → Record → Bool
asks_others hart (RemoteBegin of token fence) = of == hart
asks_others hart _ = false

-- the fence is executed by the hart
abbrev pub is_for : ℕ → Record → Bool
is_for hart (Fence of rs1 rs2) = of == hart
is_for hart (RemoteBegin of token fence) = names fence hart
is_for hart _ = false

-- by its ASID it takes out the entry, whatever its addresses are
abbrev pub is_of_space : Scheme → Entry → Record → Bool
is_of_space scheme e (Fence of rs1 rs2) = is_fenced scheme None rs2 e
is_of_space scheme e (RemoteBegin of token fence) = is_fenced scheme None fence.asid e
is_of_space scheme e _ = false

-- it takes out the entry
abbrev pub covers : Scheme → Entry → Record → Bool
covers scheme e (Fence of rs1 rs2) = is_fenced scheme rs1 rs2 e
covers scheme e (RemoteBegin of token fence) = is_covered scheme fence e
covers scheme e _ = false

-- ---- what a flush asked for

-- the flush of one hart asked for the fence, where another hart may hold the translation: its hart
-- fences itself or asks others. If it asks nobody, a fence of the other hart counts too, as that may
-- be done in the handler of an interrupt
abbrev pub is_asked : Bool → ℕ → ℕ → Record → Bool
is_asked others flusher hart made =
    fences_itself flusher made
    || (asks_others flusher made || (not others && fences_itself hart made))

-- all that it asked for, by the records that were made since it began
abbrev pub asked_by : ℕ → ℕ → List Record → List Record
asked_by flusher hart made =
    filter (is_asked (list_any (asks_others flusher) made) flusher hart) made

-- ---- reasons

abbrev pub none : (Record → Bool) → List Record → Bool
none test made = not (list_any test made)

-- why none of these fences has taken the entry from the hart: the first of these that holds
abbrev pub reason_among : Scheme → ℕ → Entry → List Record → Reason
reason_among scheme hart e fences =
    if none (λ f. true) fences then NoFence
    else if none (is_for hart) fences then OtherHarts
    else if none (λ f. is_for hart f && is_of_space scheme e f) fences then OtherSpaces
    else if none (λ f. is_for hart f && covers scheme e f) fences then OtherPages
    else NotDone

-- by the record that began the flush, and the records that were made since then
abbrev pub reason_since : Scheme → ℕ → Entry → Option Record → List Record → Reason
reason_since scheme hart e None made = NoFlush
reason_since scheme hart e (Some flush) made =
    reason_among scheme hart e (asked_by (hart_of flush) hart made)

-- by the newest of the records that begins such a flush
abbrev pub reason_by : Scheme → ℕ → Entry → (Record → Bool) → List Record → Reason
reason_by scheme hart e begins made =
    reason_since scheme hart e (find begins made) (before_first begins made)

-- the record begins a flush of the translation
abbrev pub begins_flush_of : Translation → Record → Bool
begins_flush_of x (ClaimBegin hart token claim) = is_claimed claim x
begins_flush_of x _ = false

-- the records of a trace that were made after the first so many
abbrev pub made_after : ℕ → Trace → List Record
made_after count trace = take (length trace - count) trace

-- The reason of a verdict at the record after the trace. Where a flush returns, it goes by that flush,
-- the newest that began under the token; else by the newest flush of the translation that began after
-- the record that made it stale.
abbrev pub reason_of : Scheme → Record → Trace → Warning → Reason
reason_of scheme (ClaimEnd of token) trace w =
    reason_by scheme w.hart w.entry (begins_claim token) trace
reason_of scheme newest trace w =
    reason_by scheme w.hart w.entry (begins_flush_of (shown_of w)) (made_after w.stale_since trace)
