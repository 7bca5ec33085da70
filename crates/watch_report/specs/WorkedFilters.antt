-- Worked filters: what was worked out by hand.
use Rattle.std.specs.Prelude.{◌≡◌, ◌++◌, ◌∷◌, ℕ, Bool, true, false, codes, List, [], Some, None}
use Rattle.pte.specs.declared.scheme.Scheme.TheVariants.{Sv39}
use Rattle.pte.specs.declared.address.PageSize.TheVariants.{Kib4}
use Rattle.watch.specs.declared.trace.Verdict.{Verdict}
use Rattle.watch.specs.declared.trace.Verdict.TheVariants.{Claimed, Free, Reuse, Used}
use Rattle.watch.specs.WorkedTraces.{given_back, trace_of}
use Rattle.watch_engine.specs.declared.warning.Warning.{Warning}
use Rattle.watch_engine.specs.WorkedWarnings.{not_fenced}
use Rattle.watch_report.specs.declared.detail.Detail.{Detail}
use Rattle.watch_report.specs.declared.detail.Detail.TheVariants.{Causes, Counts, Verdicts}
use Rattle.watch_report.specs.declared.filter.Filter.{Filter}
use Rattle.watch_report.specs.Filters.{filter_in, kind_of, no_filter, taken}
use Rattle.watch_report.specs.KnownLists.{none_known}
use Rattle.watch_report.specs.Reports.{Told, end_text, options_of, told_of, told_text}
use Rattle.watch_report.specs.VerdictLines.{GivesVerdict}
use Rattle.watch_report.specs.WorkedReports.{records, use_line, warning_of}

abbrev pub of_hart : ℕ → Filter
of_hart hart = record no_filter { hart = Some hart }

abbrev pub of_page : ℕ → Filter
of_page address = record no_filter { address = Some address }

abbrev pub of_kind : Bool → Verdict → Filter
of_kind global verdict = record no_filter { kind = Some (kind_of global verdict) }

-- ---- what is told

-- at the second record the page at 0x1000 is freed that harts 0 and 1 may hold, that at 0x2000 that
-- hart 1 may hold, and that at 0x1000 of the kernel; at the last hart 1 uses the page at 0x1000
abbrev pub on_hart : ℕ → Warning → Warning
on_hart hart w = record w { hart = hart }

abbrev pub on_page : ℕ → Warning → Warning
on_page base w =
    record w { entry = record w.entry { page = record { base = base; size = Kib4 } } }

abbrev pub given : List (List Warning)
given =
    (warning_of Used false ∷ [])
    ∷ (on_hart 0 (warning_of Free false) ∷ warning_of Free false
    ∷ on_page 0x2000 (warning_of Free false) ∷ warning_of Free true ∷ [])
    ∷ [] ∷ []

-- of a filter this is told of the records, and at the end
abbrev pub about : Filter → Detail → Told
about filter detail = told_of (options_of detail filter) none_known (codes "a.trace")

abbrev pub Tells : Filter → Detail → List ℕ → List ℕ → Type 0
Tells filter detail text last =
    (told_text (about filter detail) Sv39 records (taken filter given) ≡ text)
    × (end_text (about filter detail) None Sv39 records (taken filter given) ≡ last)

abbrev pub freed : List ℕ
freed = codes ", stale since line 4 by unmap; frames 100+1 given back by free_page\n"

abbrev pub other_hart_line : List ℕ
other_hart_line =
    codes "a.trace:6: free hart 0 may hold page 1000+1000 -> 100 rw-u- asid 1 root 80000" ++ freed

abbrev pub free_line : List ℕ
free_line =
    codes "a.trace:6: free hart 1 may hold page 1000+1000 -> 100 rw-u- asid 1 root 80000" ++ freed

abbrev pub other_page_line : List ℕ
other_page_line =
    codes "a.trace:6: free hart 1 may hold page 2000+1000 -> 100 rw-u- asid 1 root 80000" ++ freed

abbrev pub kernel_line : List ℕ
kernel_line =
    codes "a.trace:6: kernel-free hart 1 may hold page 1000+1000 -> 100 rw-ug asid any root any"
    ++ freed

abbrev pub without_a_filter : Type 0
without_a_filter =
    Tells no_filter Verdicts
    (other_hart_line ++ free_line ++ other_page_line ++ kernel_line ++ use_line)
    (codes "3 records, 5 verdicts: free 3, use 1, kernel-free 1\n")

abbrev pub one_hart : Type 0
one_hart =
    Tells (of_hart 0) Verdicts other_hart_line (codes "3 records, 1 verdict: free 1\n")

-- the first address of a page, its last, and one between them; and the first behind it
abbrev pub first_address : Type 0
first_address =
    Tells (of_page 0x2000) Verdicts other_page_line (codes "3 records, 1 verdict: free 1\n")

abbrev pub last_address : Type 0
last_address =
    Tells (of_page 0x1FFF) Verdicts (other_hart_line ++ free_line ++ kernel_line ++ use_line)
    (codes "3 records, 4 verdicts: free 2, use 1, kernel-free 1\n")

abbrev pub address_within : Type 0
address_within =
    Tells (of_page 0x2ABC) Verdicts other_page_line (codes "3 records, 1 verdict: free 1\n")

abbrev pub address_behind : Type 0
address_behind = Tells (of_page 0x3000) Verdicts [] (codes "3 records, no verdict\n")

-- a kind of users' pages is not that of the kernel's
abbrev pub users_kind : Type 0
users_kind =
    Tells (of_kind false Free) Verdicts (other_hart_line ++ free_line ++ other_page_line)
    (codes "3 records, 3 verdicts: free 3\n")

abbrev pub kernels_kind : Type 0
kernels_kind =
    Tells (of_kind true Free) Verdicts kernel_line (codes "3 records, 1 verdict: kernel-free 1\n")

abbrev pub other_kind : Type 0
other_kind = Tells (of_kind false Used) Verdicts use_line (codes "3 records, 1 verdict: use 1\n")

-- two tests at once, and all three; two that no verdict passes both
abbrev pub two_tests : Type 0
two_tests =
    Tells (record { hart = Some 1; address = None; kind = Some (kind_of false Free) }) Verdicts
    (free_line ++ other_page_line) (codes "3 records, 2 verdicts: free 2\n")

abbrev pub three_tests : Type 0
three_tests =
    Tells (record { hart = Some 1; address = Some 0x1000; kind = Some (kind_of false Free) })
    Verdicts free_line (codes "3 records, 1 verdict: free 1\n")

abbrev pub none_passes : Type 0
none_passes =
    Tells (record { hart = Some 0; address = Some 0x2000; kind = None }) Verdicts []
    (codes "3 records, no verdict\n")

-- in the other details too
abbrev pub counted_alone : Type 0
counted_alone = Tells (of_hart 0) Counts [] (codes "3 records, 1 verdict: free 1\n")

-- the use is of the finding of the free, which the filter does not take: its cause begins with it
abbrev pub cause_of_use : Type 0
cause_of_use =
    Tells (of_kind false Used) Causes
    (use_line ++ codes "  cause 1: user pages, first use: no flush of the page has begun since\n")
    (codes "a.trace:7: cause 1: user pages, first use: no flush of the page has begun since; 1 finding: use 1\n"
    ++ codes "  stale by unmap: 1 finding, 1 page of 1 space, hart 1; used 1\n"
    ++ codes "3 records, 1 verdict: use 1\n")

abbrev pub causes_of_hart : Type 0
causes_of_hart =
    Tells (of_hart 0) Causes
    (other_hart_line ++ codes "  cause 1: user pages, first free: no flush of the page has begun since\n")
    (codes "a.trace:6: cause 1: user pages, first free: no flush of the page has begun since; 1 finding: free 1\n"
    ++ codes "  stale by unmap: 1 finding, 1 page of 1 space, hart 0; not reached 1\n"
    ++ codes "3 records, 1 verdict: free 1\n")

abbrev pub no_cause : Type 0
no_cause = Tells (of_hart 2) Causes [] (codes "3 records, no verdict\n")

-- ---- whether there is a verdict

-- the page is unmapped, and neither hart has fenced when its frame is given back: each may hold it
abbrev pub Warns : Filter → Type 0
Warns filter = GivesVerdict filter Sv39 (given_back 0x100 ∷ trace_of not_fenced)

abbrev pub warns_at_all : Type 0
warns_at_all = Warns no_filter

abbrev pub warns_of_hart : Type 0
warns_of_hart = Warns (of_hart 0)

abbrev pub warns_of_page : Type 0
warns_of_page = Warns (of_page 0x1ABC)

abbrev pub warns_of_kind : Type 0
warns_of_kind = Warns (of_kind false Free)

abbrev pub silent_of_hart : Type 0
silent_of_hart = ¬ Warns (of_hart 2)

abbrev pub silent_of_page : Type 0
silent_of_page = ¬ Warns (of_page 0x2000)

abbrev pub silent_of_kind : Type 0
silent_of_kind = ¬ Warns (of_kind false Used)

abbrev pub silent_of_kernel : Type 0
silent_of_kernel = ¬ Warns (of_kind true Free)

-- ---- by words

abbrev pub no_word : Type 0
no_word = filter_in None None None ≡ Some no_filter

abbrev pub three_words : Type 0
three_words =
    filter_in (Some (codes "63")) (Some (codes "ffffffff8000A000")) (Some (codes "kernel-reuse"))
    ≡ Some (record { hart = Some 63; address = Some 0xFFFFFFFF8000A000; kind = Some (kind_of true Reuse) })

abbrev pub hart_word : Type 0
hart_word = filter_in (Some (codes "7")) None None ≡ Some (of_hart 7)

abbrev pub page_word : Type 0
page_word = filter_in None (Some (codes "1000")) None ≡ Some (of_page 0x1000)

abbrev pub kind_word : Type 0
kind_word = filter_in None None (Some (codes "claim")) ≡ Some (of_kind false Claimed)

-- each is refused beside words that are right
abbrev pub IsRefused : List ℕ → List ℕ → List ℕ → Type 0
IsRefused hart page kind = filter_in (Some hart) (Some page) (Some kind) ≡ None

abbrev pub no_such_hart : Type 0
no_such_hart = IsRefused (codes "64") (codes "1000") (codes "free")

abbrev pub hart_in_letters : Type 0
hart_in_letters = IsRefused (codes "a") (codes "1000") (codes "free")

abbrev pub empty_hart : Type 0
empty_hart = IsRefused [] (codes "1000") (codes "free")

abbrev pub page_with_prefix : Type 0
page_with_prefix = IsRefused (codes "1") (codes "0x1000") (codes "free")

abbrev pub long_page : Type 0
long_page = IsRefused (codes "1") (codes "00000000000001000") (codes "free")

abbrev pub large_letters : Type 0
large_letters = IsRefused (codes "1") (codes "1000") (codes "Free")

abbrev pub owner_alone : Type 0
owner_alone = IsRefused (codes "1") (codes "1000") (codes "kernel-")

abbrev pub word_of_users : Type 0
word_of_users = IsRefused (codes "1") (codes "1000") (codes "user-free")

abbrev pub end_of_a_word : Type 0
end_of_a_word = IsRefused (codes "1") (codes "1000") (codes "used")
