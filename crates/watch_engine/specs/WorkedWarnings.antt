-- Worked traces of warnings: what one warning shows, since when a page is stale, and the warnings
-- at a record, by hand (privileged manual 4.2.1; 4.3.1, the flags of an entry). The pages and the
-- records are those of the worked traces of `watch`: hart 0 changes the tables and fences, and hart
-- 1 does not, where nothing else is said.
use Rattle.std.specs.Prelude.{ℕ, Bool, true, List, [], ◌∷◌, ◌++◌, Some}
use Rattle.pte.specs.declared.scheme.Scheme.TheVariants.{Sv39}
use Rattle.pte.specs.declared.address.PageSize.TheVariants.{Kib4}
use Rattle.pte.specs.declared.flags.PteFlags.{PteFlags}
use Rattle.pte.specs.Address.{Span}
use Rattle.watch.specs.declared.trace.Record.{Record}
use Rattle.watch.specs.declared.trace.Record.TheVariants.{Satp, GiveBack, Use}
use Rattle.watch.specs.declared.trace.Verdict.{Verdict}
use Rattle.watch.specs.declared.trace.Verdict.TheVariants.{Free, Reuse, Claimed, Used}
use Rattle.watch.specs.Holding.{Translation}
use Rattle.watch.specs.WorkedTraces.{both_enter, flags, flushes, full_fence, given_back, given_out, global_page, leaf_cleared, leaf_stored, mapped, page, page_fence, pointers, read_only, returns_from_flush, superpage, trace_of, writable}
use Rattle.watch_engine.specs.declared.warning.Warning.{Warning}
use Rattle.watch_engine.specs.Warnings.{AreWarnings, IsStaleFrom, Shows}

-- one warning shows both translations, or none does
unfoldable pub AreShownByOne : Translation → Translation → Type 0
AreShownByOne a b = Shows a b

unfoldable pub AreShownApart : Translation → Translation → Type 0
AreShownApart a b = ¬ Shows a b

-- after the records the translation is stale for the hart from this moment, or not from this one
unfoldable pub BeganAt : List Record → ℕ → Translation → ℕ → Type 0
BeganAt records hart x moment = IsStaleFrom Sv39 moment (trace_of records) hart x

unfoldable pub DidNotBeginAt : List Record → ℕ → Translation → ℕ → Type 0
DidNotBeginAt records hart x moment = ¬ IsStaleFrom Sv39 moment (trace_of records) hart x

-- these are the warnings at a record after the records, or are not
unfoldable pub AreGiven : List Record → Record → List Warning → Type 0
AreGiven records newest warnings = AreWarnings Sv39 newest (trace_of records) warnings

unfoldable pub AreNotGiven : List Record → Record → List Warning → Type 0
AreNotGiven records newest warnings = ¬ AreWarnings Sv39 newest (trace_of records) warnings

-- a translation but for one of its parts
abbrev pub under_root : ℕ → Translation → Translation
under_root root x = record x { root = root }

abbrev pub with_asid : ℕ → Translation → Translation
with_asid asid x = record x { entry = record x.entry { asid = asid } }

abbrev pub with_global : Bool → Translation → Translation
with_global global x = record x { entry = record x.entry { global = global } }

abbrev pub with_page : Span → Translation → Translation
with_page span x = record x { entry = record x.entry { page = span } }

abbrev pub with_ppn : ℕ → Translation → Translation
with_ppn ppn x = record x { entry = record x.entry { ppn = ppn } }

abbrev pub with_flags : PteFlags → Translation → Translation
with_flags given x = record x { entry = record x.entry { flags = given } }

-- the page under the first root with R, W, U, A, D, and another that differs in one thing alone: in
-- the base of its page, in the size, in the PPN
abbrev pub other_base : Type 0
other_base =
    AreShownApart (page writable) (with_page (record { base = 0x2000; size = Kib4 }) (page writable))

abbrev pub other_size : Type 0
other_size = AreShownApart superpage (with_page (record { base = 0x200000; size = Kib4 }) superpage)

abbrev pub other_ppn : Type 0
other_ppn = AreShownApart (page writable) (with_ppn 0x101 (page writable))

-- in U (R, W, A, D without it), W (R, U, A, D), X (R, X, U, A, D beside R, U, A, D), and R (X, U, A,
-- D beside R, X, U, A, D)
abbrev pub other_user : Type 0
other_user = AreShownApart (page writable) (page (flags 0xC6))

abbrev pub other_write : Type 0
other_write = AreShownApart (page writable) (page read_only)

abbrev pub other_execute : Type 0
other_execute = AreShownApart (page read_only) (page (flags 0xDA))

abbrev pub other_read : Type 0
other_read = AreShownApart (page (flags 0xDA)) (page (flags 0xD8))

-- in being global, and, of what is not, in the root and in the ASID
abbrev pub other_global : Type 0
other_global = AreShownApart (page writable) (with_global true (page writable))

abbrev pub other_root : Type 0
other_root = AreShownApart (page writable) (under_root 0x80010 (page writable))

abbrev pub other_asid : Type 0
other_asid = AreShownApart (page writable) (with_asid 2 (page writable))

-- in A alone, in D alone, in both
abbrev pub not_accessed : Type 0
not_accessed = AreShownByOne (page writable) (page (flags 0x96))

abbrev pub not_dirty : Type 0
not_dirty = AreShownByOne (page writable) (page (flags 0x56))

abbrev pub neither_accessed_nor_dirty : Type 0
neither_accessed_nor_dirty = AreShownByOne (page writable) (page (flags 0x16))

-- what is global, of another root and ASID; and with G on a pointer above the leaf, not on the leaf
abbrev pub global_elsewhere : Type 0
global_elsewhere = AreShownByOne global_page (under_root 0x80010 (with_asid 2 global_page))

abbrev pub global_by_pointer : Type 0
global_by_pointer = AreShownByOne global_page (with_flags (flags 0xC6) global_page)

-- the kernel unmaps the page with the 6th record, and fences on hart 0 with the 7th
abbrev pub page_unmapped : List Record
page_unmapped = mapped ++ leaf_cleared ∷ page_fence 0 ∷ []

abbrev pub stale_since_unmapped : Type 0
stale_since_unmapped = BeganAt page_unmapped 1 (page writable) 6

abbrev pub not_since_before : Type 0
not_since_before = DidNotBeginAt page_unmapped 1 (page writable) 5

abbrev pub not_since_after : Type 0
not_since_after = DidNotBeginAt page_unmapped 1 (page writable) 7

abbrev pub never_after_fence : Type 0
never_after_fence = DidNotBeginAt page_unmapped 0 (page writable) 6

-- unmapped by the 6th record, mapped again just so by the 7th, unmapped again by the 8th
abbrev pub page_unmapped_twice : List Record
page_unmapped_twice =
    mapped ++ leaf_cleared ∷ leaf_stored 0x100 writable ∷ leaf_cleared ∷ page_fence 0 ∷ []

abbrev pub stale_since_second : Type 0
stale_since_second = BeganAt page_unmapped_twice 1 (page writable) 8

abbrev pub not_since_first : Type 0
not_since_first = DidNotBeginAt page_unmapped_twice 1 (page writable) 6

-- mapped to another frame by the 6th record, unmapped by the 7th
abbrev pub page_moved : List Record
page_moved = mapped ++ leaf_stored 0x101 writable ∷ leaf_cleared ∷ page_fence 0 ∷ []

abbrev pub stale_since_moved : Type 0
stale_since_moved = BeganAt page_moved 1 (page writable) 6

abbrev pub stale_since_moved_and_unmapped : Type 0
stale_since_moved_and_unmapped = BeganAt page_moved 1 (with_ppn 0x101 (page writable)) 7

-- W is taken away by the 6th record, and the page unmapped by the 7th
abbrev pub page_protected : List Record
page_protected = mapped ++ leaf_stored 0x100 read_only ∷ leaf_cleared ∷ page_fence 0 ∷ []

abbrev pub stale_since_protected : Type 0
stale_since_protected = BeganAt page_protected 1 (page writable) 6

abbrev pub stale_since_protected_and_unmapped : Type 0
stale_since_protected_and_unmapped = BeganAt page_protected 1 (page read_only) 7

-- mapped with A and D clear, which the 6th record sets; unmapped by the 7th
abbrev pub without_a_and_d : PteFlags
without_a_and_d = flags 0x16

abbrev pub page_accessed : List Record
page_accessed =
    pointers ++ leaf_stored 0x100 without_a_and_d
    ∷ both_enter ++ leaf_stored 0x100 writable ∷ leaf_cleared ∷ page_fence 0 ∷ []

-- a warning of a verdict, a hart, a translation and the moment from which it is stale
abbrev pub warning : Verdict → ℕ → Translation → ℕ → Warning
warning verdict hart x moment =
    record {
      verdict = verdict;
      hart = hart;
      root = x.root;
      entry = x.entry;
      stale_since = moment;
    }

-- the frame is given back after the fence of hart 0: hart 1 may hold the page, so one warning. It is
-- not none, nor twice the same, nor one that differs in one thing
abbrev pub freed : List Warning → Type 0
freed warnings = AreGiven page_unmapped (given_back 0x100) warnings

abbrev pub not_freed : List Warning → Type 0
not_freed warnings = AreNotGiven page_unmapped (given_back 0x100) warnings

abbrev pub free_warning : Warning
free_warning = warning Free 1 (page writable) 6

abbrev pub one_free : Type 0
one_free = freed (free_warning ∷ [])

abbrev pub free_left_out : Type 0
free_left_out = not_freed []

abbrev pub free_given_twice : Type 0
free_given_twice = not_freed (free_warning ∷ free_warning ∷ [])

abbrev pub free_of_other_ppn : Type 0
free_of_other_ppn = not_freed (warning Free 1 (with_ppn 0x101 (page writable)) 6 ∷ [])

abbrev pub free_of_other_page : Type 0
free_of_other_page =
    not_freed
    (warning Free 1 (with_page (record { base = 0x2000; size = Kib4 }) (page writable)) 6 ∷ [])

abbrev pub free_of_other_rights : Type 0
free_of_other_rights = not_freed (warning Free 1 (page read_only) 6 ∷ [])

abbrev pub free_of_other_root : Type 0
free_of_other_root = not_freed (warning Free 1 (under_root 0x80010 (page writable)) 6 ∷ [])

abbrev pub free_of_other_asid : Type 0
free_of_other_asid = not_freed (warning Free 1 (with_asid 2 (page writable)) 6 ∷ [])

abbrev pub free_as_global : Type 0
free_as_global = not_freed (warning Free 1 (with_global true (page writable)) 6 ∷ [])

abbrev pub free_from_before : Type 0
free_from_before = not_freed (warning Free 1 (page writable) 5 ∷ [])

abbrev pub free_from_after : Type 0
free_from_after = not_freed (warning Free 1 (page writable) 7 ∷ [])

abbrev pub free_as_reuse : Type 0
free_as_reuse = not_freed (warning Reuse 1 (page writable) 6 ∷ [])

abbrev pub free_of_hart_that_fenced : Type 0
free_of_hart_that_fenced = not_freed (warning Free 0 (page writable) 6 ∷ [])

abbrev pub free_of_both_harts : Type 0
free_of_both_harts = not_freed (free_warning ∷ warning Free 0 (page writable) 6 ∷ [])

-- neither hart has fenced: one warning for each, in any order
abbrev pub not_fenced : List Record
not_fenced = mapped ++ leaf_cleared ∷ []

abbrev pub two_harts : Type 0
two_harts =
    AreGiven not_fenced (given_back 0x100) (warning Free 0 (page writable) 6 ∷ free_warning ∷ [])

abbrev pub two_harts_in_other_order : Type 0
two_harts_in_other_order =
    AreGiven not_fenced (given_back 0x100) (free_warning ∷ warning Free 0 (page writable) 6 ∷ [])

abbrev pub one_of_two_harts : Type 0
one_of_two_harts = AreNotGiven not_fenced (given_back 0x100) (free_warning ∷ [])

-- both fenced, or the frame is given back a second time, or another frame is: none
abbrev pub both_fenced : Type 0
both_fenced =
    AreGiven (mapped ++ leaf_cleared ∷ full_fence 0 ∷ full_fence 1 ∷ []) (given_back 0x100) []

abbrev pub freed_again : Type 0
freed_again = AreGiven (page_unmapped ++ given_back 0x100 ∷ []) (given_back 0x100) []

abbrev pub other_frame : Type 0
other_frame = AreGiven page_unmapped (given_back 0x101) []

abbrev pub fence_alone : Type 0
fence_alone = AreGiven page_unmapped (page_fence 1) []

-- a hart may hold the page with A and D clear and set: one warning, with either
abbrev pub set_shows_clear : Type 0
set_shows_clear =
    AreGiven page_accessed (given_back 0x100) (warning Free 1 (page writable) 7 ∷ [])

abbrev pub clear_shows_set : Type 0
clear_shows_set =
    AreGiven page_accessed (given_back 0x100) (warning Free 1 (page without_a_and_d) 7 ∷ [])

abbrev pub not_both_clear_and_set : Type 0
not_both_clear_and_set =
    AreNotGiven page_accessed (given_back 0x100)
    (warning Free 1 (page writable) 7 ∷ warning Free 1 (page without_a_and_d) 7 ∷ [])

-- the page was moved to another frame, and both frames are given back at once: a warning for each
-- frame, each from its own moment
abbrev pub both_frames : Record
both_frames = GiveBack 0 (record { first = 0x100; count = 2 })

abbrev pub two_frames : Type 0
two_frames =
    AreGiven page_moved both_frames
    (free_warning ∷ warning Free 1 (with_ppn 0x101 (page writable)) 7 ∷ [])

abbrev pub one_of_two_frames : Type 0
one_of_two_frames = AreNotGiven page_moved both_frames (free_warning ∷ [])

-- the page lost W before it was unmapped: a warning of the page with W, and one without
abbrev pub two_rights : Type 0
two_rights =
    AreGiven page_protected (given_back 0x100)
    (free_warning ∷ warning Free 1 (page read_only) 7 ∷ [])

abbrev pub one_of_two_rights : Type 0
one_of_two_rights = AreNotGiven page_protected (given_back 0x100) (free_warning ∷ [])

-- hart 1 goes to the same root with ASID 2 by the 6th record, and the page is unmapped by the 7th:
-- a warning for each ASID
abbrev pub of_two_spaces : List Record
of_two_spaces =
    mapped ++ Satp 1 (Some (record { root = 0x80000; asid = 2 }))
    ∷ leaf_cleared ∷ page_fence 0 ∷ []

abbrev pub two_spaces : Type 0
two_spaces =
    AreGiven of_two_spaces (given_back 0x100)
    (warning Free 1 (page writable) 7 ∷ warning Free 1 (with_asid 2 (page writable)) 7 ∷ [])

abbrev pub one_of_two_spaces : Type 0
one_of_two_spaces =
    AreNotGiven of_two_spaces (given_back 0x100) (warning Free 1 (page writable) 7 ∷ [])

-- the frame is given out after it was given back
abbrev pub one_reuse : Type 0
one_reuse =
    AreGiven (page_unmapped ++ given_back 0x100 ∷ []) (given_out 0x100)
    (warning Reuse 1 (page writable) 6 ∷ [])

-- a flush of the page returns, and no hart has fenced
abbrev pub two_claims : Type 0
two_claims =
    AreGiven (mapped ++ leaf_cleared ∷ flushes ∷ []) returns_from_flush
    (warning Claimed 0 (page writable) 6 ∷ warning Claimed 1 (page writable) 6 ∷ [])

-- hart 1 uses the page after the frame was given back, and once more
abbrev pub one_use : Type 0
one_use =
    AreGiven (page_unmapped ++ given_back 0x100 ∷ []) (Use 1 0x1ABC)
    (warning Used 1 (page writable) 6 ∷ [])

abbrev pub one_more_use : Type 0
one_more_use =
    AreGiven (page_unmapped ++ given_back 0x100 ∷ Use 1 0x1ABC ∷ []) (Use 1 0x1ABC)
    (warning Used 1 (page writable) 6 ∷ [])
