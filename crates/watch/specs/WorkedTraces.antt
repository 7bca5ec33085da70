-- Worked traces: what a kernel of two harts does to a page, and what the manual gives by hand of
-- which translations a hart may still hold (privileged manual 4.2.1).
use Rattle.std.specs.Prelude.{ℕ, true, false, List, [], ◌∷◌, ◌++◌, Option, Some, None}
use Rattle.pte.specs.declared.scheme.Scheme.TheVariants.{Sv39}
use Rattle.pte.specs.declared.address.PageSize.TheVariants.{Kib4, Mib2}
use Rattle.pte.specs.declared.flags.PteFlags.{PteFlags}
use Rattle.pte.specs.Address.{Span}
use Rattle.pte.specs.Entry.{leaf_word, table_word}
use Rattle.watch.specs.declared.trace.AddressRange.{AddressRange}
use Rattle.watch.specs.declared.trace.Frames.{Frames}
use Rattle.watch.specs.declared.trace.Record.{Record}
use Rattle.watch.specs.declared.trace.Record.TheVariants.{Store, Satp, Fence, RemoteBegin, RemoteEnd, GiveOut, GiveBack, ClaimBegin, ClaimEnd, Use}
use Rattle.watch.specs.declared.trace.Space.{Space}
use Rattle.watch.specs.declared.trace.Verdict.{Verdict}
use Rattle.watch.specs.declared.trace.Verdict.TheVariants.{Free, Reuse, Claimed, Used}
use Rattle.watch.specs.Trace.{Trace}
use Rattle.watch.specs.Holding.{MayHold, Translation}
use Rattle.watch.specs.Staleness.{Stale}
use Rattle.watch.specs.Verdicts.{IsGiven, IsNew}

-- the trace of records in the order in which they were made
abbrev pub recorded : Trace → List Record → Trace
recorded trace [] = trace
recorded trace (next ∷ rest) = recorded (next ∷ trace) rest

abbrev pub trace_of : List Record → Trace
trace_of records = recorded [] records

-- after the records the hart may not hold the translation; may, and it is stale; may, and it is not
unfoldable pub IsNotHeld : List Record → ℕ → Translation → Type 0
IsNotHeld records hart x = ¬ MayHold Sv39 (trace_of records) hart x

unfoldable pub IsHeldStale : List Record → ℕ → Translation → Type 0
IsHeldStale records hart x = Stale Sv39 (trace_of records) hart x

unfoldable pub IsHeldMapped : List Record → ℕ → Translation → Type 0
IsHeldMapped records hart x =
    MayHold Sv39 (trace_of records) hart x × ¬ Stale Sv39 (trace_of records) hart x

-- the verdict is given, or not, at a record after these, of the translation and the hart
unfoldable pub Warns : List Record → Record → Verdict → ℕ → Translation → Type 0
Warns records newest verdict hart x = IsGiven Sv39 verdict newest (trace_of records) hart x

unfoldable pub IsSilent : List Record → Record → Verdict → ℕ → Translation → Type 0
IsSilent records newest verdict hart x = ¬ IsGiven Sv39 verdict newest (trace_of records) hart x

-- the verdict is new at a record after these, or was given before
unfoldable pub IsFirst : List Record → Verdict → ℕ → Translation → Type 0
IsFirst records verdict hart x = IsNew Sv39 verdict (trace_of records) hart x

unfoldable pub IsRepeated : List Record → Verdict → ℕ → Translation → Type 0
IsRepeated records verdict hart x = ¬ IsNew Sv39 verdict (trace_of records) hart x

-- no verdict at all is given at a record after these
abbrev pub HasNoVerdict : List Record → Record → Type 0
HasNoVerdict records newest =
    (verdict : Verdict) (hart : ℕ) (x : Translation) → IsSilent records newest verdict hart x

-- two roots, 0x80000 with ASID 1 and 0x80010 with ASID 2. Under the first, the page at 0x1000 has
-- its leaf in the table 0x80002, and the superpage at 0x200000 in the table 0x80001
abbrev pub first_space : Option Space
first_space = Some (record { root = 0x80000; asid = 1 })

abbrev pub second_space : Option Space
second_space = Some (record { root = 0x80010; asid = 2 })

abbrev pub flags : ℕ → PteFlags
flags bits = record { 0 = bits }

-- R, W, U, A, D; the same without W; the same with G and without U
abbrev pub writable : PteFlags
writable = flags 0xD6

abbrev pub read_only : PteFlags
read_only = flags 0xD2

abbrev pub kernel : PteFlags
kernel = flags 0xE6

-- stores by hart 0: of the pointers, of the page's leaf, and of the superpage's
abbrev pub pointers : List Record
pointers =
    Store 0 0x80000000 (table_word 0x80001 false) ∷ Store 0 0x80001000 (table_word 0x80002 false)
    ∷ []

abbrev pub first_pointer_cleared : Record
first_pointer_cleared = Store 0 0x80000000 0

-- of a pointer from the second root to the same table
abbrev pub second_pointer : Record
second_pointer = Store 0 0x80010000 (table_word 0x80001 false)

abbrev pub leaf_stored : ℕ → PteFlags → Record
leaf_stored ppn given = Store 0 0x80002008 (leaf_word ppn given)

abbrev pub leaf_cleared : Record
leaf_cleared = Store 0 0x80002008 0

abbrev pub superpage_stored : ℕ → PteFlags → Record
superpage_stored ppn given = Store 0 0x80001008 (leaf_word ppn given)

abbrev pub superpage_cleared : Record
superpage_cleared = Store 0 0x80001008 0

-- both harts go to the first space
abbrev pub both_enter : List Record
both_enter = Satp 0 first_space ∷ Satp 1 first_space ∷ []

-- the page is mapped to frame 0x100, the superpage to the 512 frames from 0x200 on
abbrev pub mapped : List Record
mapped = pointers ++ leaf_stored 0x100 writable ∷ both_enter

abbrev pub superpage_mapped : List Record
superpage_mapped = pointers ++ superpage_stored 0x200 writable ∷ both_enter

abbrev pub global_mapped : List Record
global_mapped = pointers ++ leaf_stored 0x100 kernel ∷ both_enter

-- the translations of them
abbrev pub small_page : Span
small_page = record { base = 0x1000; size = Kib4 }

abbrev pub page : PteFlags → Translation
page given =
    record {
      root = 0x80000;
      entry = record { asid = 1; global = false; page = small_page; ppn = 0x100; flags = given };
    }

abbrev pub global_page : Translation
global_page =
    record {
      root = 0x80000;
      entry = record { asid = 1; global = true; page = small_page; ppn = 0x100; flags = kernel };
    }

abbrev pub superpage : Translation
superpage =
    record {
      root = 0x80000;
      entry = record {
        asid = 1;
        global = false;
        page = record { base = 0x200000; size = Mib2 };
        ppn = 0x200;
        flags = writable;
      };
    }

-- one frame, and what the records say of it
abbrev pub frame : ℕ → Frames
frame ppn = record { first = ppn; count = 1 }

abbrev pub given_back : ℕ → Record
given_back ppn = GiveBack 0 (frame ppn)

abbrev pub given_out : ℕ → Record
given_out ppn = GiveOut 0 (frame ppn)

-- a fence of the page with its ASID, and one of everything
abbrev pub page_fence : ℕ → Record
page_fence hart = Fence hart (Some 0x1000) (Some 1)

abbrev pub full_fence : ℕ → Record
full_fence hart = Fence hart None None

-- hart 0 asks hart 1 for a fence of the page with its ASID, under token 7
abbrev pub page_range : Option AddressRange
page_range = Some (record { start = 0x1000; size = 0x1000 })

abbrev pub asks : Record
asks = RemoteBegin 0 7 (record { harts = 0x02; range = page_range; asid = Some 1 })

abbrev pub learns : Record
learns = RemoteEnd 0 7

-- hart 0 begins a flush of the page of the first root, under token 9, and returns from it
abbrev pub flushes : Record
flushes = ClaimBegin 0 9 (record { root = Some 0x80000; range = page_range })

abbrev pub returns_from_flush : Record
returns_from_flush = ClaimEnd 0 9

-- a frame is given back: hart 1 did not fence, and did
abbrev pub freed_before_fence : Type 0
freed_before_fence =
    Warns (mapped ++ leaf_cleared ∷ page_fence 0 ∷ []) (given_back 0x100) Free 1 (page writable)

abbrev pub freed_after_own_fence : Type 0
freed_after_own_fence =
    IsSilent (mapped ++ leaf_cleared ∷ page_fence 0 ∷ []) (given_back 0x100) Free 0 (page writable)

abbrev pub freed_after_fence : Type 0
freed_after_fence =
    IsSilent (mapped ++ leaf_cleared ∷ page_fence 0 ∷ page_fence 1 ∷ []) (given_back 0x100) Free 1
    (page writable)

abbrev pub freed_after_full_fences : Type 0
freed_after_full_fences =
    HasNoVerdict (mapped ++ leaf_cleared ∷ full_fence 0 ∷ full_fence 1 ∷ []) (given_back 0x100)

-- another frame is given back
abbrev pub other_frame_freed : Type 0
other_frame_freed =
    IsSilent (mapped ++ leaf_cleared ∷ page_fence 0 ∷ []) (given_back 0x101) Free 1 (page writable)

-- fences that do not cover the page: of another address, of another ASID; and one before the store
abbrev pub freed_after_fence_elsewhere : Type 0
freed_after_fence_elsewhere =
    Warns (mapped ++ leaf_cleared ∷ Fence 1 (Some 0x2000) None ∷ []) (given_back 0x100) Free 1
    (page writable)

abbrev pub freed_after_fence_of_other_asid : Type 0
freed_after_fence_of_other_asid =
    Warns (mapped ++ leaf_cleared ∷ Fence 1 None (Some 2) ∷ []) (given_back 0x100) Free 1
    (page writable)

abbrev pub freed_after_early_fence : Type 0
freed_after_early_fence =
    Warns (mapped ++ full_fence 1 ∷ leaf_cleared ∷ []) (given_back 0x100) Free 1 (page writable)

-- the remote fence of the page, and one that begins before the store
abbrev pub freed_after_remote_fence : Type 0
freed_after_remote_fence =
    IsSilent (mapped ++ leaf_cleared ∷ asks ∷ learns ∷ []) (given_back 0x100) Free 1 (page writable)

abbrev pub freed_within_remote_fence : Type 0
freed_within_remote_fence =
    Warns (mapped ++ leaf_cleared ∷ asks ∷ []) (given_back 0x100) Free 1 (page writable)

abbrev pub freed_after_early_remote_fence : Type 0
freed_after_early_remote_fence =
    Warns (mapped ++ asks ∷ leaf_cleared ∷ learns ∷ []) (given_back 0x100) Free 1 (page writable)

-- the remote fence does not name hart 0
abbrev pub freed_after_fence_of_others : Type 0
freed_after_fence_of_others =
    Warns (mapped ++ leaf_cleared ∷ asks ∷ learns ∷ []) (given_back 0x100) Free 0 (page writable)

-- the page was mapped again while the fence ran: the hart may have filled it after its fence
abbrev pub freed_after_fill_within_fence : Type 0
freed_after_fill_within_fence =
    Warns (mapped ++ leaf_cleared ∷ asks ∷ leaf_stored 0x100 writable ∷ leaf_cleared ∷ learns ∷ [])
    (given_back 0x100) Free 1 (page writable)

-- the hart has left the space, and holds it still
abbrev pub freed_after_leaving : Type 0
freed_after_leaving =
    Warns (mapped ++ Satp 1 second_space ∷ leaf_cleared ∷ page_fence 0 ∷ []) (given_back 0x100) Free
    1 (page writable)

abbrev pub freed_after_leaving_and_fence : Type 0
freed_after_leaving_and_fence =
    IsSilent (mapped ++ Satp 1 second_space ∷ full_fence 1 ∷ leaf_cleared ∷ page_fence 0 ∷ [])
    (given_back 0x100) Free 1 (page writable)

-- any address of a superpage drops all of it, and each of its frames is exposed without
abbrev pub superpage_freed : Type 0
superpage_freed =
    Warns (superpage_mapped ++ superpage_cleared ∷ []) (given_back 0x3FF) Free 1 superpage

abbrev pub superpage_freed_after_fence : Type 0
superpage_freed_after_fence =
    IsSilent (superpage_mapped ++ superpage_cleared ∷ Fence 1 (Some 0x3FF000) None ∷ [])
    (given_back 0x3FF) Free 1 superpage

-- a fence with an ASID leaves what is global
abbrev pub global_freed_after_fence_with_asid : Type 0
global_freed_after_fence_with_asid =
    Warns (global_mapped ++ leaf_cleared ∷ page_fence 1 ∷ []) (given_back 0x100) Free 1 global_page

abbrev pub global_freed_after_fence : Type 0
global_freed_after_fence =
    IsSilent (global_mapped ++ leaf_cleared ∷ Fence 1 (Some 0x1000) None ∷ []) (given_back 0x100)
    Free 1 global_page

-- what is stale of a page that lost a right, gained one, was unmapped, mapped again, or elsewhere
abbrev pub rights_lost : Type 0
rights_lost = IsHeldStale (mapped ++ leaf_stored 0x100 read_only ∷ []) 1 (page writable)

abbrev pub rights_gained : Type 0
rights_gained =
    IsHeldMapped
    (pointers ++ leaf_stored 0x100 read_only ∷ both_enter ++ leaf_stored 0x100 writable ∷ []) 1
    (page read_only)

abbrev pub unmapped : Type 0
unmapped = IsHeldStale (mapped ++ leaf_cleared ∷ []) 1 (page writable)

abbrev pub mapped_again : Type 0
mapped_again =
    IsHeldMapped (mapped ++ leaf_cleared ∷ leaf_stored 0x100 writable ∷ []) 1 (page writable)

abbrev pub mapped_elsewhere : Type 0
mapped_elsewhere = IsHeldStale (mapped ++ leaf_stored 0x101 writable ∷ []) 1 (page writable)

-- a pointer above the leaf is cleared, or its table's frame is given out
abbrev pub pointer_cleared : Type 0
pointer_cleared = IsHeldStale (mapped ++ Store 0 0x80001000 0 ∷ []) 1 (page writable)

abbrev pub table_given_out : Type 0
table_given_out = IsHeldStale (mapped ++ given_out 0x80002 ∷ []) 1 (page writable)

-- the kernel's table stands under both roots; hart 0 is in the first space, hart 1 in the second
abbrev pub shared_mapped : List Record
shared_mapped = second_pointer ∷ global_mapped ++ Satp 1 second_space ∷ []

-- hart 0 leaves the first space, and its root's frame is given out: what is global is not stale,
-- since the second space has it, until the kernel unmaps it, or the second root is given out too;
-- and what is not global is stale at once
abbrev pub first_root_given_out : List Record
first_root_given_out = shared_mapped ++ Satp 0 None ∷ given_out 0x80000 ∷ []

abbrev pub root_given_out : Type 0
root_given_out = IsHeldMapped first_root_given_out 1 global_page

abbrev pub unmapped_after_root : Type 0
unmapped_after_root = IsHeldStale (first_root_given_out ++ leaf_cleared ∷ []) 1 global_page

abbrev pub both_roots_given_out : Type 0
both_roots_given_out =
    IsHeldStale (first_root_given_out ++ Satp 1 None ∷ given_out 0x80010 ∷ []) 1 global_page

abbrev pub root_of_page_given_out : Type 0
root_of_page_given_out =
    IsHeldStale
    (second_pointer ∷ mapped
    ++ Satp 0 None ∷ Satp 1 second_space ∷ given_out 0x80000 ∷ [])
    1 (page writable)

-- the second root is given out while hart 1 is in its space, and its pointer is stored again: it is
-- a root still, also for hart 0, whose own space loses the page; had hart 1 left, it would be none,
-- even for what was filled from it
abbrev pub only_second_again : List Record
only_second_again = given_out 0x80010 ∷ second_pointer ∷ first_pointer_cleared ∷ []

abbrev pub used_root_given_out : Type 0
used_root_given_out = IsHeldMapped (shared_mapped ++ only_second_again) 0 global_page

abbrev pub filled_from_used_root : Type 0
filled_from_used_root =
    IsHeldMapped (shared_mapped ++ only_second_again ++ full_fence 1 ∷ []) 1 global_page

abbrev pub unused_root_given_out : Type 0
unused_root_given_out =
    IsHeldStale (shared_mapped ++ Satp 1 None ∷ only_second_again) 0 global_page

abbrev pub own_root_given_out : Type 0
own_root_given_out =
    IsHeldStale (shared_mapped ++ Satp 1 None ∷ only_second_again) 0
    (record global_page { root = 0x80010 })

-- what is global is mapped as long as one of the spaces has it
abbrev pub unmapped_in_one_space : Type 0
unmapped_in_one_space = IsHeldMapped (shared_mapped ++ first_pointer_cleared ∷ []) 0 global_page

abbrev pub unmapped_in_both_spaces : Type 0
unmapped_in_both_spaces =
    IsHeldStale (shared_mapped ++ first_pointer_cleared ∷ Store 0 0x80010000 0 ∷ []) 0 global_page

-- a hart fills it in each space that has it, whatever its root and its ASID; a full fence drops it
-- where the hart's space has it not, though it is mapped in another
abbrev pub global_filled_in_other_space : Type 0
global_filled_in_other_space = IsHeldMapped (shared_mapped ++ full_fence 1 ∷ []) 1 global_page

abbrev pub global_dropped_in_other_space : Type 0
global_dropped_in_other_space =
    IsNotHeld (global_mapped ++ Satp 1 second_space ∷ full_fence 1 ∷ []) 1 global_page

abbrev pub global_of_no_root : Type 0
global_of_no_root =
    IsHeldMapped global_mapped 1
    (record { root = 0; entry = record global_page.entry { asid = 0 } })

abbrev pub page_of_no_root : Type 0
page_of_no_root = IsNotHeld mapped 1 (record (page writable) { root = 0 })

-- fences with an ASID leave what is global, with its own ASID and with that of the hart's space; they
-- drop what is not
abbrev pub global_after_fences_with_asid : Type 0
global_after_fences_with_asid =
    IsHeldMapped
    (global_mapped ++ Satp 1 second_space ∷ Fence 1 None (Some 1) ∷ Fence 1 None (Some 2) ∷ []) 1
    global_page

abbrev pub page_after_fence_with_asid : Type 0
page_after_fence_with_asid =
    IsNotHeld (mapped ++ Satp 1 second_space ∷ Fence 1 None (Some 1) ∷ []) 1 (page writable)

-- a hart that comes into the space after the page is unmapped holds nothing of it
abbrev pub entered_late : Type 0
entered_late =
    IsNotHeld (pointers ++ leaf_stored 0x100 writable ∷ leaf_cleared ∷ both_enter) 1 (page writable)

-- a verdict is new at the first give-back, and again once the page was mapped in between
abbrev pub freed_for_the_first_time : Type 0
freed_for_the_first_time = IsFirst (mapped ++ leaf_cleared ∷ []) Free 1 (page writable)

abbrev pub freed_once_more : Type 0
freed_once_more =
    IsRepeated (mapped ++ leaf_cleared ∷ given_back 0x100 ∷ given_out 0x100 ∷ []) Free 1
    (page writable)

abbrev pub freed_after_mapped_again : Type 0
freed_after_mapped_again =
    IsFirst
    (mapped ++ leaf_cleared ∷ given_back 0x100 ∷ leaf_stored 0x100 writable ∷ leaf_cleared ∷ [])
    Free 1 (page writable)

-- a frame is given out
abbrev pub reused_before_fence : Type 0
reused_before_fence =
    Warns (mapped ++ leaf_cleared ∷ page_fence 0 ∷ given_back 0x100 ∷ []) (given_out 0x100) Reuse 1
    (page writable)

abbrev pub reused_after_fence : Type 0
reused_after_fence =
    IsSilent (mapped ++ leaf_cleared ∷ page_fence 0 ∷ given_back 0x100 ∷ page_fence 1 ∷ [])
    (given_out 0x100) Reuse 1 (page writable)

-- a flush returns: no hart fenced; the remote fence ran within it; the store came after it began;
-- it was of another root
abbrev pub claimed_with_no_fence : Type 0
claimed_with_no_fence =
    Warns (mapped ++ leaf_cleared ∷ flushes ∷ []) returns_from_flush Claimed 1 (page writable)

abbrev pub claimed_with_fence : Type 0
claimed_with_fence =
    IsSilent (mapped ++ leaf_cleared ∷ flushes ∷ asks ∷ learns ∷ []) returns_from_flush Claimed 1
    (page writable)

abbrev pub claimed_before_store : Type 0
claimed_before_store =
    IsSilent (mapped ++ flushes ∷ leaf_cleared ∷ []) returns_from_flush Claimed 1 (page writable)

abbrev pub claimed_of_other_root : Type 0
claimed_of_other_root =
    IsSilent
    (mapped ++ leaf_cleared
    ∷ ClaimBegin 0 9 (record { root = Some 0x80010; range = page_range }) ∷ [])
    returns_from_flush Claimed 1 (page writable)

-- a protection takes W away, and the flush returns with no fence
abbrev pub claimed_after_protection : Type 0
claimed_after_protection =
    Warns (mapped ++ leaf_stored 0x100 read_only ∷ flushes ∷ []) returns_from_flush Claimed 1
    (page writable)

-- hart 1 uses the page: after the frame was given back, after a flush returned; with a fence in
-- between; before either, as it may; in another space, where it uses what is global
abbrev pub used_after_free : Type 0
used_after_free =
    Warns (mapped ++ leaf_cleared ∷ given_back 0x100 ∷ []) (Use 1 0x1ABC) Used 1 (page writable)

abbrev pub used_after_claim : Type 0
used_after_claim =
    Warns (mapped ++ leaf_cleared ∷ flushes ∷ returns_from_flush ∷ []) (Use 1 0x1ABC) Used 1
    (page writable)

abbrev pub used_after_fence : Type 0
used_after_fence =
    IsSilent (mapped ++ leaf_cleared ∷ given_back 0x100 ∷ page_fence 1 ∷ []) (Use 1 0x1ABC) Used 1
    (page writable)

abbrev pub used_before_free : Type 0
used_before_free =
    IsSilent (mapped ++ leaf_cleared ∷ []) (Use 1 0x1ABC) Used 1 (page writable)

abbrev pub used_elsewhere : Type 0
used_elsewhere =
    IsSilent (mapped ++ leaf_cleared ∷ given_back 0x100 ∷ Satp 1 second_space ∷ []) (Use 1 0x1ABC)
    Used 1 (page writable)

abbrev pub global_used_elsewhere : Type 0
global_used_elsewhere =
    Warns (global_mapped ++ leaf_cleared ∷ given_back 0x100 ∷ Satp 1 second_space ∷ [])
    (Use 1 0x1ABC) Used 1 global_page

abbrev pub used_beside : Type 0
used_beside =
    IsSilent (mapped ++ leaf_cleared ∷ given_back 0x100 ∷ []) (Use 1 0x2000) Used 1 (page writable)
