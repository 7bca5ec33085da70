-- The harts that a flush asked for a fence, as bits: the same flush, and the same fences that it asked
-- for, as the reason of a verdict goes by.
use Rattle.std.specs.Prelude.{ℕ, Bool, true, false, ◌^◌, if◌then◌else◌, nat_lt, bit_or, List, [], ◌∷◌, Option, Some, None, find}
use Rattle.std.specs.List.{before_first}
use Rattle.watch.specs.declared.trace.Record.{Record}
use Rattle.watch.specs.declared.trace.Record.TheVariants.{Fence, RemoteBegin, ClaimEnd}
use Rattle.watch.specs.Trace.{Trace, begins_claim, hart_of}
use Rattle.watch_engine.specs.declared.warning.Warning.{Warning}
use Rattle.watch_engine.specs.Warnings.{shown_of}
use Rattle.watch_causes.specs.declared.reason.Reason.{Reason}
use Rattle.watch_causes.specs.declared.reason.Reason.TheVariants.{OtherSpaces, OtherPages, NotDone}
use Rattle.watch_causes.specs.Reasons.{asked_by, begins_flush_of, made_after}

-- bit h for hart h, of the harts 0 to 63
abbrev pub bit_of : ℕ → ℕ
bit_of hart = if nat_lt hart 64 then 2 ^ hart else 0

-- the harts that execute the fence
abbrev pub harts_of : Record → ℕ
harts_of (Fence hart rs1 rs2) = bit_of hart
harts_of (RemoteBegin hart token fence) = fence.harts
harts_of _ = 0

-- those that execute one of these
abbrev pub harts_among : List Record → ℕ
harts_among [] = 0
harts_among (fence ∷ fences) = bit_or (harts_of fence) (harts_among fences)

-- by the record that began the flush, and the records that were made since then
abbrev pub fenced_since : ℕ → Option Record → List Record → ℕ
fenced_since hart None made = 0
fenced_since hart (Some flush) made = harts_among (asked_by (hart_of flush) hart made)

-- by the newest of the records that begins such a flush
abbrev pub fenced_by : ℕ → (Record → Bool) → List Record → ℕ
fenced_by hart begins made = fenced_since hart (find begins made) (before_first begins made)

-- by the flush of a verdict at the record after the trace
abbrev pub fenced_of : Record → Trace → Warning → ℕ
fenced_of (ClaimEnd of token) trace w = fenced_by w.hart (begins_claim token) trace
fenced_of newest trace w =
    fenced_by w.hart (begins_flush_of (shown_of w)) (made_after w.stale_since trace)

-- by its reason, the flush asked for a fence of the verdict's hart
abbrev pub is_of_hart : Reason → Bool
is_of_hart OtherSpaces = true
is_of_hart OtherPages = true
is_of_hart NotDone = true
is_of_hart _ = false
