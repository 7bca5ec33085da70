-- Worked stories: what each record has to do with a verdict, and records that alone give it, by hand
-- (privileged manual 4.2.1). The pages and the records are those of the worked traces of `watch`: hart
-- 0 unmaps the page with the 6th record, and hart 1 may hold it.
use Rattle.std.specs.Prelude.{ℕ, Bool, false, ◌≡◌, ◌==◌, ◌||◌, not, List, [], ◌∷◌, ◌++◌, None}
use Rattle.pte.specs.declared.scheme.Scheme.TheVariants.{Sv39}
use Rattle.pte.specs.Entry.{table_word}
use Rattle.watch.specs.declared.trace.Record.{Record}
use Rattle.watch.specs.declared.trace.Record.TheVariants.{Satp, Store, Use}
use Rattle.watch.specs.declared.trace.Verdict.TheVariants.{Claimed}
use Rattle.watch.specs.WorkedTraces.{asks, first_space, flushes, given_back, given_out, global_page, learns, leaf_cleared, leaf_stored, mapped, page, page_fence, returns_from_flush, second_space, writable}
use Rattle.watch_engine.specs.declared.warning.Warning.{Warning}
use Rattle.watch_engine.specs.WorkedWarnings.{warning}
use Rattle.watch_causes.specs.declared.reason.Reason.TheVariants.{OtherHarts, OtherSpaces, OtherPages, NotDone}
use Rattle.watch_causes.specs.declared.role.Role.{Role}
use Rattle.watch_causes.specs.declared.role.Role.TheVariants.{Maps, Enters, Leaves, Drops, AsksEarly, MakesStale, Misses, BeginsFlush, EndsFlush, GivesBack, GivesOut, Uses, Other}
use Rattle.watch_causes.specs.declared.stories.Part.{Part}
use Rattle.watch_causes.specs.Roles.{role_of}
use Rattle.watch_causes.specs.Stories.{Gives, parts_from}
use Rattle.watch_causes.specs.WorkedReasons.{fence_of_next, fence_of_other}

-- ---- roles

abbrev pub claimed : Warning
claimed = warning Claimed 1 (page writable) 6

abbrev pub kernel_claimed : Warning
kernel_claimed = warning Claimed 1 global_page 6

-- the record of this number
abbrev pub HasRole : Warning → ℕ → Record → Role → Type 0
HasRole w number made role = role_of Sv39 w number made ≡ role

-- before the page was unmapped
abbrev pub word_stored : Type 0
word_stored = HasRole claimed 3 (leaf_stored 0x100 writable) Maps

abbrev pub hart_enters : Type 0
hart_enters = HasRole claimed 5 (Satp 1 first_space) Enters

abbrev pub other_hart_enters : Type 0
other_hart_enters = HasRole claimed 4 (Satp 0 first_space) Other

abbrev pub hart_goes_elsewhere : Type 0
hart_goes_elsewhere = HasRole claimed 5 (Satp 1 second_space) Leaves

abbrev pub hart_goes_bare : Type 0
hart_goes_bare = HasRole claimed 5 (Satp 1 None) Leaves

abbrev pub global_is_everywhere : Type 0
global_is_everywhere = HasRole kernel_claimed 5 (Satp 1 second_space) Enters

abbrev pub hart_fenced : Type 0
hart_fenced = HasRole claimed 5 (page_fence 1) Drops

abbrev pub hart_was_asked : Type 0
hart_was_asked = HasRole claimed 5 asks AsksEarly

abbrev pub other_hart_fenced : Type 0
other_hart_fenced = HasRole claimed 5 (page_fence 0) Other

abbrev pub next_page_fenced : Type 0
next_page_fenced = HasRole claimed 5 (fence_of_next 1) Other

abbrev pub unmapped : Type 0
unmapped = HasRole claimed 6 leaf_cleared MakesStale

-- since then
abbrev pub fence_of_other_hart : Type 0
fence_of_other_hart = HasRole claimed 7 (page_fence 0) (Misses OtherHarts)

abbrev pub fence_of_other_asid : Type 0
fence_of_other_asid = HasRole claimed 7 (fence_of_other 1) (Misses OtherSpaces)

abbrev pub fence_by_asid_of_global : Type 0
fence_by_asid_of_global = HasRole kernel_claimed 7 (page_fence 1) (Misses OtherSpaces)

abbrev pub fence_of_next_page : Type 0
fence_of_next_page = HasRole claimed 7 (fence_of_next 1) (Misses OtherPages)

abbrev pub fence_that_is_asked : Type 0
fence_that_is_asked = HasRole claimed 7 asks (Misses NotDone)

abbrev pub flush_begins : Type 0
flush_begins = HasRole claimed 7 flushes BeginsFlush

abbrev pub flush_returns : Type 0
flush_returns = HasRole claimed 8 returns_from_flush EndsFlush

abbrev pub frame_comes_back : Type 0
frame_comes_back = HasRole claimed 7 (given_back 0x100) GivesBack

abbrev pub frame_goes_out : Type 0
frame_goes_out = HasRole claimed 7 (given_out 0x100) GivesOut

abbrev pub page_is_used : Type 0
page_is_used = HasRole claimed 7 (Use 1 0x1000) Uses

abbrev pub word_stored_since : Type 0
word_stored_since = HasRole claimed 7 (leaf_stored 0x101 writable) Other

abbrev pub fence_is_learnt : Type 0
fence_is_learnt = HasRole claimed 8 learns Other

-- ---- the whole of one

-- hart 0 flushes with a fence of its own alone
abbrev pub flushed : List Record
flushed = mapped ++ leaf_cleared ∷ flushes ∷ page_fence 0 ∷ fence_of_next 1 ∷ returns_from_flush ∷ []

abbrev pub told_but : (ℕ → Bool) → List Part
told_but left_out =
    parts_from Sv39 claimed (λ n. not (left_out n)) (λ n. not (left_out n)) 1 flushed

abbrev pub part : ℕ → Record → Role → Part
part number made role = record { number = number; made = made; role = role }

-- hart 0's satp does not matter; the fence of hart 1 is told all the same
abbrev pub is_fourth_or_ninth : ℕ → Bool
is_fourth_or_ninth n = (n == 4) || (n == 9)

abbrev pub parts_told : Type 0
parts_told =
    told_but is_fourth_or_ninth
    ≡ part 1 (Store 0 0x80000000 (table_word 0x80001 false)) Maps
    ∷ part 2 (Store 0 0x80001000 (table_word 0x80002 false)) Maps
    ∷ part 3 (leaf_stored 0x100 writable) Maps
    ∷ part 5 (Satp 1 first_space) Enters
    ∷ part 6 leaf_cleared MakesStale
    ∷ part 7 flushes BeginsFlush
    ∷ part 8 (page_fence 0) (Misses OtherHarts)
    ∷ part 9 (fence_of_next 1) (Misses OtherPages)
    ∷ part 10 returns_from_flush EndsFlush ∷ []

abbrev pub they_give_it : Type 0
they_give_it = Gives Sv39 (told_but is_fourth_or_ninth) claimed

-- without the store that made the page stale
abbrev pub is_sixth : ℕ → Bool
is_sixth n = n == 6

abbrev pub others_do_not : Type 0
others_do_not = ¬ Gives Sv39 (told_but is_sixth) claimed
