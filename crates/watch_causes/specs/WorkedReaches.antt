-- Worked reaches: whether a hart comes back to a page, and the harts that the flush fenced, by hand
-- (privileged manual 4.2.1; 4.3.1, G). The pages and the records are those of the worked traces of
-- `watch`: hart 0 unmaps the page with the 6th record, flushes, and hart 1 may hold it, where nothing
-- else is said.
use Rattle.std.specs.Prelude.{ℕ, false, ◌≡◌, List, [], ◌∷◌, ◌++◌, Option, Some, None, map}
use Rattle.pte.specs.declared.scheme.Scheme.TheVariants.{Sv39}
use Rattle.watch.specs.declared.trace.Record.{Record}
use Rattle.watch.specs.declared.trace.Record.TheVariants.{ClaimBegin, Fence, RemoteEnd, Satp, Use}
use Rattle.watch.specs.declared.trace.Space.{Space}
use Rattle.watch.specs.declared.trace.Verdict.TheVariants as kinds
use Rattle.watch.specs.WorkedTraces.{asks, first_space, flushes, full_fence, given_back, global_mapped, global_page, leaf_cleared, learns, mapped, page, page_fence, page_range, returns_from_flush, second_space, trace_of, writable}
use Rattle.watch_engine.specs.declared.warning.Warning.{Warning}
use Rattle.watch_engine.specs.WorkedWarnings.{warning}
use Rattle.watch_causes.specs.declared.begun.Begun.{Begun}
use Rattle.watch_causes.specs.declared.reach.Reach.{Reach}
use Rattle.watch_causes.specs.declared.reach.Reach.TheVariants.{Used, Reachable, NotReached}
use Rattle.watch_causes.specs.declared.reason.Reason.{Reason}
use Rattle.watch_causes.specs.declared.reason.Reason.TheVariants.{NotDone, OtherHarts}
use Rattle.watch_causes.specs.Begins.{begun_of}
use Rattle.watch_causes.specs.Fenced.{fenced_of}
use Rattle.watch_causes.specs.Reaches.{reach_of}
use Rattle.watch_causes.specs.WorkedReasons.{asks_for, every_root, fence_of_next, fence_of_other, next_range}

-- ---- a hart comes back, or does not

-- no warnings at these records
abbrev pub nothing : List Record → List (List Warning)
nothing records = map (λ made. []) records

-- a flush returns behind the first records, with the warning, which begins the one finding; then come
-- the others
abbrev pub HasReach : List Record → Warning → List Record → Reach → Type 0
HasReach before w later reach =
    let trace = trace_of (before ++ returns_from_flush ∷ later) in
    let given = nothing later ++ (w ∷ []) ∷ nothing before in
    map (reach_of Sv39 trace given) (begun_of Sv39 trace given) ≡ reach ∷ []

abbrev pub claimed : Warning
claimed = warning kinds.Claimed 1 (page writable) 6

-- the hart stays in the address space of the page; it goes to another one, or to Bare, before the flush
abbrev pub stayed : List Record → Reach → Type 0
stayed later reach = HasReach (mapped ++ leaf_cleared ∷ flushes ∷ []) claimed later reach

abbrev pub went : Option Space → List Record → Reach → Type 0
went space later reach =
    HasReach (mapped ++ leaf_cleared ∷ Satp 1 space ∷ flushes ∷ []) claimed later reach

abbrev pub elsewhere : List Record → Reach → Type 0
elsewhere = went second_space

abbrev pub comes_back : Record
comes_back = Satp 1 first_space

abbrev pub is_there_at_first : Type 0
is_there_at_first = stayed [] Reachable

abbrev pub leaves_behind_it : Type 0
leaves_behind_it = stayed (Satp 1 second_space ∷ page_fence 1 ∷ []) Reachable

abbrev pub stays_elsewhere : Type 0
stays_elsewhere = elsewhere [] NotReached

abbrev pub stays_in_bare : Type 0
stays_in_bare = went None (Satp 1 second_space ∷ []) NotReached

abbrev pub is_back : Type 0
is_back = elsewhere (comes_back ∷ []) Reachable

abbrev pub is_back_and_leaves : Type 0
is_back_and_leaves = elsewhere (comes_back ∷ Satp 1 None ∷ page_fence 1 ∷ []) Reachable

-- under another root with the ASID; another hart comes
abbrev pub is_back_by_asid : Type 0
is_back_by_asid = elsewhere (Satp 1 (Some (record { root = 0x80020; asid = 1 })) ∷ []) Reachable

abbrev pub other_hart_comes : Type 0
other_hart_comes = elsewhere (Satp 0 first_space ∷ []) NotReached

-- a fence of the page comes first, or last; one of another ASID, of the next page, of another hart
abbrev pub fenced_first : Type 0
fenced_first = elsewhere (page_fence 1 ∷ comes_back ∷ []) NotReached

abbrev pub fenced_last : Type 0
fenced_last = elsewhere (comes_back ∷ page_fence 1 ∷ []) Reachable

abbrev pub other_asid_fenced : Type 0
other_asid_fenced = elsewhere (fence_of_other 1 ∷ comes_back ∷ []) Reachable

abbrev pub next_page_fenced : Type 0
next_page_fenced = elsewhere (fence_of_next 1 ∷ comes_back ∷ []) Reachable

abbrev pub other_hart_fenced : Type 0
other_hart_fenced = elsewhere (page_fence 0 ∷ comes_back ∷ []) Reachable

-- both harts that hold the page have a finding: there is a verdict `use` of one of them, that of hart 1
-- or of hart 2
abbrev pub AtUse : ℕ → List Reach → Type 0
AtUse hart reaches =
    let before = mapped ++ leaf_cleared ∷ Satp 1 second_space ∷ flushes ∷ [] in
    let trace = trace_of (before ++ returns_from_flush ∷ Use hart 0x1000 ∷ []) in
    let other = warning kinds.Claimed 2 (page writable) 6 in
    let used = warning kinds.Used hart (page writable) 6 in
    let given = (used ∷ []) ∷ (claimed ∷ other ∷ []) ∷ nothing before in
    map (reach_of Sv39 trace given) (begun_of Sv39 trace given) ≡ reaches

abbrev pub is_used : Type 0
is_used = AtUse 1 (Used ∷ NotReached ∷ [])

abbrev pub other_is_used : Type 0
other_is_used = AtUse 2 (NotReached ∷ Used ∷ [])

-- ---- remote fences

-- one that begins before the page is stale may have been executed before that, though it ends later;
-- one that begins between that and the flush, or after it, was not
abbrev pub asked_early : Type 0
asked_early =
    HasReach (mapped ++ asks ∷ leaf_cleared ∷ Satp 1 second_space ∷ flushes ∷ [])
    (warning kinds.Claimed 1 (page writable) 7) (learns ∷ comes_back ∷ []) Reachable

abbrev pub asked_between : Type 0
asked_between =
    HasReach (mapped ++ leaf_cleared ∷ asks ∷ Satp 1 second_space ∷ flushes ∷ []) claimed
    (learns ∷ comes_back ∷ []) NotReached

abbrev pub asked_late : Type 0
asked_late = elsewhere (asks ∷ learns ∷ comes_back ∷ []) NotReached

-- the hart comes back before its end; it ends under another token; it is for another hart, for another
-- ASID, for the next page
abbrev pub not_learnt : Type 0
not_learnt = elsewhere (asks ∷ comes_back ∷ learns ∷ []) Reachable

abbrev pub other_learnt : Type 0
other_learnt = elsewhere (asks ∷ RemoteEnd 0 8 ∷ comes_back ∷ []) Reachable

abbrev pub other_hart_asked : Type 0
other_hart_asked = elsewhere (asks_for 0x05 None None ∷ learns ∷ comes_back ∷ []) Reachable

abbrev pub other_asid_asked : Type 0
other_asid_asked = elsewhere (asks_for 0x02 page_range (Some 2) ∷ learns ∷ comes_back ∷ []) Reachable

abbrev pub next_page_asked : Type 0
next_page_asked = elsewhere (asks_for 0x02 next_range (Some 1) ∷ learns ∷ comes_back ∷ []) Reachable

-- of two under the token the newest counts, and both have ended
abbrev pub asked_again : Type 0
asked_again = elsewhere (asks_for 0x04 None None ∷ asks ∷ learns ∷ comes_back ∷ []) NotReached

abbrev pub asked_another : Type 0
asked_another =
    elsewhere (asks ∷ asks_for 0x04 None None ∷ learns ∷ learns ∷ comes_back ∷ []) Reachable

-- ---- pages that are global

abbrev pub global_claimed : Option Space → List Record → Reach → Type 0
global_claimed space later reach =
    HasReach (global_mapped ++ leaf_cleared ∷ Satp 1 space ∷ every_root 9 ∷ [])
    (warning kinds.Claimed 1 global_page 6) later reach

abbrev pub global_is_everywhere : Type 0
global_is_everywhere = global_claimed second_space [] Reachable

abbrev pub bare_has_nothing : Type 0
bare_has_nothing = global_claimed None [] NotReached

abbrev pub global_comes_back : Type 0
global_comes_back = global_claimed None (page_fence 1 ∷ Satp 1 second_space ∷ []) Reachable

abbrev pub global_is_fenced : Type 0
global_is_fenced = global_claimed None (full_fence 1 ∷ Satp 1 second_space ∷ []) NotReached

-- ---- what a flush fenced

-- a flush of the page begins with the first of these records, and returns behind the last
abbrev pub FencedBy : List Record → ℕ → Type 0
FencedBy records harts =
    fenced_of returns_from_flush (trace_of (mapped ++ leaf_cleared ∷ records)) claimed ≡ harts

abbrev pub fenced_nobody : Type 0
fenced_nobody = FencedBy (flushes ∷ []) 0

abbrev pub fenced_itself : Type 0
fenced_itself = FencedBy (flushes ∷ page_fence 0 ∷ []) 0x01

abbrev pub fenced_another : Type 0
fenced_another = FencedBy (flushes ∷ asks ∷ []) 0x02

abbrev pub fenced_several : Type 0
fenced_several = FencedBy (flushes ∷ asks_for 0x06 None None ∷ full_fence 0 ∷ asks ∷ []) 0x07

abbrev pub fenced_before : Type 0
fenced_before = FencedBy (asks ∷ flushes ∷ []) 0

-- the hart of the verdict fences, where nobody was asked, or hart 2 was
abbrev pub holder_fenced : Type 0
holder_fenced = FencedBy (flushes ∷ fence_of_next 1 ∷ []) 0x02

abbrev pub holder_fenced_unasked : Type 0
holder_fenced_unasked = FencedBy (flushes ∷ fence_of_next 1 ∷ asks_for 0x04 None None ∷ []) 0x04

-- a mask has the harts 0 to 63
abbrev pub FencedByItself : ℕ → ℕ → Type 0
FencedByItself hart harts =
    FencedBy (ClaimBegin hart 9 (record { root = None; range = page_range }) ∷ Fence hart None None ∷ []) harts

abbrev pub last_hart_fenced : Type 0
last_hart_fenced = FencedByItself 63 0x8000000000000000

abbrev pub hart_without_bit : Type 0
hart_without_bit = FencedByItself 64 0

-- the frame is given back: no flush, and within one
abbrev pub FreedAfter : List Record → ℕ → Type 0
FreedAfter records harts =
    fenced_of (given_back 0x100) (trace_of (mapped ++ leaf_cleared ∷ records))
    (warning kinds.Free 1 (page writable) 6)
    ≡ harts

abbrev pub freed_with_no_flush : Type 0
freed_with_no_flush = FreedAfter (asks ∷ page_fence 0 ∷ []) 0

abbrev pub freed_within_flush : Type 0
freed_within_flush = FreedAfter (page_fence 0 ∷ flushes ∷ asks ∷ []) 0x02

-- ---- findings begin

-- the frame is given back within the flush, which returns then: hart 1's finding has begun, and two more
-- begin at one record
abbrev pub begun_at : ℕ → Warning → Reason → ℕ → Begun
begun_at number w reason fenced =
    record {
      number = number;
      warning = w;
      cause = record { global = false; first = w.verdict; reason = reason };
      fenced = fenced;
    }

abbrev pub begin_in_order : Type 0
begin_in_order =
    let freed = warning kinds.Free 1 (page writable) 6 in
    let third = warning kinds.Claimed 2 (page writable) 6 in
    let flusher = warning kinds.Claimed 0 (page writable) 6 in
    let before = mapped ++ leaf_cleared ∷ flushes ∷ asks ∷ [] in
    begun_of Sv39 (trace_of (before ++ given_back 0x100 ∷ returns_from_flush ∷ []))
    ((third ∷ claimed ∷ flusher ∷ []) ∷ (freed ∷ []) ∷ nothing before)
    ≡ begun_at 9 freed NotDone 0x02
    ∷ begun_at 10 third OtherHarts 0x02
    ∷ begun_at 10 flusher OtherHarts 0x02 ∷ []
