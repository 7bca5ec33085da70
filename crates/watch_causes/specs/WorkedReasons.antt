-- Worked reasons: the reason of a verdict, by hand from what its flush asked for (privileged manual
-- 4.2.1). The pages and the records are those of the worked traces of `watch`: hart 0 unmaps the page
-- with the 6th record and flushes, and hart 1 may hold it, where nothing else is said.
use Rattle.std.specs.Prelude.{ℕ, ◌≡◌, List, [], ◌∷◌, ◌++◌, Option, Some, None}
use Rattle.pte.specs.declared.scheme.Scheme.TheVariants.{Sv39}
use Rattle.watch.specs.declared.trace.AddressRange.{AddressRange}
use Rattle.watch.specs.declared.trace.Record.{Record}
use Rattle.watch.specs.declared.trace.Record.TheVariants.{ClaimBegin, Fence, RemoteBegin}
use Rattle.watch.specs.declared.trace.Verdict.TheVariants.{Claimed, Free, Reuse}
use Rattle.watch.specs.WorkedTraces.{asks, flushes, full_fence, given_back, given_out, global_mapped, global_page, leaf_cleared, mapped, page, page_fence, page_range, returns_from_flush, trace_of, writable}
use Rattle.watch_engine.specs.declared.warning.Warning.{Warning}
use Rattle.watch_engine.specs.WorkedWarnings.{warning}
use Rattle.watch_causes.specs.declared.reason.Reason.{Reason}
use Rattle.watch_causes.specs.declared.reason.Reason.TheVariants.{NoFlush, NoFence, OtherHarts, OtherSpaces, OtherPages, NotDone}
use Rattle.watch_causes.specs.Reasons.{reason_of}

-- the verdict at a record after these has the reason
abbrev pub IsBecause : List Record → Record → Warning → Reason → Type 0
IsBecause records newest w reason = reason_of Sv39 newest (trace_of records) w ≡ reason

-- ---- a flush returns

-- after these records, of which the flush of the page begins with the first
abbrev pub claimed_after : List Record → Reason → Type 0
claimed_after records reason =
    IsBecause (mapped ++ leaf_cleared ∷ records) returns_from_flush (warning Claimed 1 (page writable) 6) reason

abbrev pub claimed_of_flusher : List Record → Reason → Type 0
claimed_of_flusher records reason =
    IsBecause (mapped ++ leaf_cleared ∷ records) returns_from_flush (warning Claimed 0 (page writable) 6) reason

-- a fence of the next page with the ASID, and one of all pages with another ASID
abbrev pub fence_of_next : ℕ → Record
fence_of_next hart = Fence hart (Some 0x2000) (Some 1)

abbrev pub fence_of_other : ℕ → Record
fence_of_other hart = Fence hart None (Some 2)

-- hart 0 asks these harts for a fence
abbrev pub next_range : Option AddressRange
next_range = Some (record { start = 0x2000; size = 0x1000 })

abbrev pub asks_for : ℕ → Option AddressRange → Option ℕ → Record
asks_for harts range asid =
    RemoteBegin 0 7 (record { harts = harts; range = range; asid = asid })

-- it asks for nothing; it fenced before it began; another hart fences
abbrev pub asked_for_nothing : Type 0
asked_for_nothing = claimed_after (flushes ∷ []) NoFence

abbrev pub fenced_before : Type 0
fenced_before = IsBecause (mapped ++ leaf_cleared ∷ asks ∷ flushes ∷ []) returns_from_flush (warning Claimed 1 (page writable) 6) NoFence

abbrev pub third_fenced : Type 0
third_fenced = claimed_after (flushes ∷ page_fence 2 ∷ []) NoFence

-- it fences itself alone, or asks hart 2 alone
abbrev pub fenced_itself : Type 0
fenced_itself = claimed_after (flushes ∷ full_fence 0 ∷ []) OtherHarts

abbrev pub asked_third : Type 0
asked_third = claimed_after (flushes ∷ asks_for 0x04 None None ∷ []) OtherHarts

-- it asks hart 1 for a fence with another ASID; beside it hart 2 for one of all
abbrev pub asked_for_other_space : Type 0
asked_for_other_space = claimed_after (flushes ∷ asks_for 0x02 page_range (Some 2) ∷ []) OtherSpaces

abbrev pub asked_third_for_all : Type 0
asked_third_for_all =
    claimed_after (flushes ∷ asks_for 0x02 page_range (Some 2) ∷ asks_for 0x04 None None ∷ []) OtherSpaces

-- it asks for the next page; beside it for the page with another ASID
abbrev pub asked_for_other_page : Type 0
asked_for_other_page = claimed_after (flushes ∷ asks_for 0x02 next_range (Some 1) ∷ []) OtherPages

abbrev pub asked_for_either : Type 0
asked_for_either =
    claimed_after
    (flushes ∷ asks_for 0x02 next_range (Some 1) ∷ asks_for 0x02 page_range (Some 2) ∷ []) OtherPages

-- it asks for the page, and does not wait; beside it for the next page
abbrev pub asked_for_page : Type 0
asked_for_page = claimed_after (flushes ∷ asks ∷ []) NotDone

abbrev pub asked_for_both : Type 0
asked_for_both = claimed_after (flushes ∷ asks_for 0x02 next_range (Some 1) ∷ asks ∷ []) NotDone

-- ---- fences of harts themselves

-- hart 1 fences the next page, or with another ASID, and nobody was asked; or hart 2 was
abbrev pub holder_fenced_next : Type 0
holder_fenced_next = claimed_after (flushes ∷ fence_of_next 1 ∷ []) OtherPages

abbrev pub holder_fenced_other : Type 0
holder_fenced_other = claimed_after (flushes ∷ fence_of_other 1 ∷ []) OtherSpaces

abbrev pub holder_fenced_unasked : Type 0
holder_fenced_unasked =
    claimed_after (flushes ∷ fence_of_next 1 ∷ asks_for 0x04 None None ∷ []) OtherHarts

-- hart 0 itself may hold the page, and fences the next one, or with another ASID, or not; hart 1 asks
-- it for a fence of the page in between
abbrev pub flusher_fenced_next : Type 0
flusher_fenced_next = claimed_of_flusher (flushes ∷ fence_of_next 0 ∷ []) OtherPages

abbrev pub flusher_fenced_other : Type 0
flusher_fenced_other = claimed_of_flusher (flushes ∷ fence_of_other 0 ∷ []) OtherSpaces

abbrev pub flusher_asked_others : Type 0
flusher_asked_others = claimed_of_flusher (flushes ∷ asks ∷ []) OtherHarts

abbrev pub other_asked_flusher : Type 0
other_asked_flusher =
    claimed_of_flusher
    (flushes ∷ RemoteBegin 1 7 (record { harts = 0x01; range = page_range; asid = Some 1 }) ∷ []) NoFence

-- a fence with an ASID is none of what is global; one without is
abbrev pub global_claimed_after : List Record → Reason → Type 0
global_claimed_after records reason =
    IsBecause (global_mapped ++ leaf_cleared ∷ records) returns_from_flush (warning Claimed 1 global_page 6) reason

abbrev pub every_root : ℕ → Record
every_root token = ClaimBegin 0 token (record { root = None; range = page_range })

abbrev pub global_asked_with_asid : Type 0
global_asked_with_asid = global_claimed_after (every_root 9 ∷ asks ∷ []) OtherSpaces

abbrev pub global_asked_without_asid : Type 0
global_asked_without_asid = global_claimed_after (every_root 9 ∷ asks_for 0x02 page_range None ∷ []) NotDone

-- of two flushes under the token the newest counts, and none under another token
abbrev pub begun_again : Type 0
begun_again = claimed_after (flushes ∷ asks ∷ flushes ∷ []) NoFence

abbrev pub begun_beside : Type 0
begun_beside = claimed_after (flushes ∷ asks ∷ every_root 8 ∷ []) NotDone

-- ---- frames are given back, or out

abbrev pub freed_after : List Record → ℕ → Reason → Type 0
freed_after records since reason =
    IsBecause records (given_back 0x100) (warning Free 1 (page writable) since) reason

abbrev pub global_freed_after : List Record → Reason → Type 0
global_freed_after records reason =
    IsBecause (global_mapped ++ leaf_cleared ∷ records) (given_back 0x100) (warning Free 1 global_page 6) reason

-- no flush; one that began before; one that began next; one of the next page, or of another root
abbrev pub freed_with_no_flush : Type 0
freed_with_no_flush = freed_after (mapped ++ leaf_cleared ∷ page_fence 0 ∷ []) 6 NoFlush

abbrev pub freed_after_early_flush : Type 0
freed_after_early_flush = freed_after (mapped ++ flushes ∷ leaf_cleared ∷ []) 7 NoFlush

abbrev pub freed_after_flush : Type 0
freed_after_flush = freed_after (mapped ++ leaf_cleared ∷ flushes ∷ []) 6 NoFence

abbrev pub freed_after_flush_of_next : Type 0
freed_after_flush_of_next =
    freed_after
    (mapped ++ leaf_cleared ∷ ClaimBegin 0 9 (record { root = Some 0x80000; range = next_range }) ∷ []) 6
    NoFlush

abbrev pub freed_after_flush_of_other_root : Type 0
freed_after_flush_of_other_root =
    freed_after
    (mapped ++ leaf_cleared ∷ ClaimBegin 0 9 (record { root = Some 0x80010; range = page_range }) ∷ []) 6
    NoFlush

-- a flush of one root is none of what is global; one of every root is
abbrev pub global_freed_after_flush_of_root : Type 0
global_freed_after_flush_of_root = global_freed_after (flushes ∷ []) NoFlush

abbrev pub global_freed_after_flush : Type 0
global_freed_after_flush = global_freed_after (every_root 9 ∷ []) NoFence

-- of two flushes of the page the newest counts; one of another page does not
abbrev pub freed_after_two_flushes : Type 0
freed_after_two_flushes =
    freed_after (mapped ++ leaf_cleared ∷ flushes ∷ asks ∷ every_root 8 ∷ []) 6 NoFence

abbrev pub freed_after_flush_beside : Type 0
freed_after_flush_beside =
    freed_after
    (mapped ++ leaf_cleared ∷ flushes ∷ asks ∷ ClaimBegin 0 8 (record { root = Some 0x80000; range = next_range }) ∷ [])
    6 NotDone

-- given out within the flush
abbrev pub reused_within_flush : Type 0
reused_within_flush =
    IsBecause (mapped ++ leaf_cleared ∷ flushes ∷ asks ∷ []) (given_out 0x100) (warning Reuse 1 (page writable) 6)
    NotDone
