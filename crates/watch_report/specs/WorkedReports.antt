-- Worked reports: what was worked out by hand of a few lines.
use Rattle.std.specs.Prelude.{◌≡◌, ℕ, Bool, true, false, codes, List, [], ◌∷◌, ◌++◌, Result, Ok, Err, Some, None}
use Rattle.pte.specs.declared.scheme.Scheme.TheVariants.{Sv39}
use Rattle.pte.specs.declared.address.PageSize.TheVariants.{Kib4, Mib2}
use Rattle.tlb.specs.declared.store.Entry.{Entry}
use Rattle.watch.specs.declared.trace.Record.TheVariants.{GiveBack, Store, Use}
use Rattle.watch.specs.declared.trace.Verdict.{Verdict}
use Rattle.watch.specs.declared.trace.Verdict.TheVariants.{Free, Used}
use Rattle.watch_engine.specs.declared.warning.Warning.{Warning}
use Rattle.watch_report.specs.declared.fault.ReportFault.{ReportFault}
use Rattle.watch_report.specs.declared.fault.ReportFault.TheVariants.{BrokenPipe, BrokenPipeAtLine, Line, Output, Unreadable}
use Rattle.watch_report.specs.declared.line_fault.LineReason.TheVariants.{EmptyStart, NoHart, NoTrace}
use Rattle.watch_report.specs.Ending.{Ends}
use Rattle.watch_report.specs.Filters.{no_filter}
use Rattle.watch_report.specs.LineFaults.{fault_at}
use Rattle.watch_report.specs.Orders.{IsInOrder}
use Rattle.watch_report.specs.KnownLists.{none_known}
use Rattle.watch_report.specs.Reports.{Told, end_text, options_of, told_of, told_text}
use Rattle.watch_report.specs.TraceText.{Noted, body_of, records_of}
use Rattle.watch_report.specs.declared.detail.Detail.{Detail}
use Rattle.watch_report.specs.declared.detail.Detail.TheVariants.{Causes, Counts, Verdicts}

-- a report of the file `a.trace`, of all verdicts
abbrev pub about : Detail → Told
about detail = told_of (options_of detail no_filter) none_known (codes "a.trace")

-- of a text this is written, before a report ends so
unfoldable pub PrintsBy : Detail → List ℕ → List ℕ → Result Bool ReportFault → Type 0
PrintsBy detail text printed result = Ends (about detail) text result (Some []) (Some printed)

abbrev pub Prints : List ℕ → List ℕ → Result Bool ReportFault → Type 0
Prints text printed result = PrintsBy Verdicts text printed result

-- a record, a mark, a comment and an empty line
abbrev pub used_once : List ℕ
used_once = codes "watch 1 2 sv39\nm begin\n# an access\n\nu 1 1000 @here\n"

-- line 3 is of a hart that is not there
abbrev pub hart_too_great : List ℕ
hart_too_great = codes "watch 1 2 sv39\nu 0 1000\nu 2 1000\nu 0 1000\n"

-- where there is no verdict each detail has the last line alone
abbrev pub done : Type 0
done = (detail : Detail) → PrintsBy detail used_once (codes "1 record, no verdict\n") (Ok false)

abbrev pub done_without_a_feed : Type 0
done_without_a_feed = Prints (codes "watch 1 2 sv48\nu 1 1000") (codes "1 record, no verdict\n") (Ok false)

abbrev pub header_alone : Type 0
header_alone = Prints (codes "watch 1 2 sv39") (codes "0 records, no verdict\n") (Ok false)

abbrev pub no_line : Type 0
no_line = Prints [] [] (Err (Line 1 (fault_at 1 EmptyStart) false))

abbrev pub no_header : Type 0
no_header = Prints (codes "u 0 1000\n") [] (Err (Line 1 (fault_at 1 NoTrace) false))

abbrev pub faulty : Type 0
faulty =
    Prints hart_too_great (codes "1 record before line 3, no verdict\n") (Err (Line 3 (fault_at 3 (NoHart 2 1)) false))

-- where the reader, or memory, fails, what was read before is printed, without a last line
abbrev pub torn : Type 0
torn = Prints used_once [] (Err Unreadable)

abbrev pub cut_off : Type 0
cut_off = Prints used_once (codes "1 rec") (Err Output)

-- the last line after a faulty one may be cut off too
abbrev pub cut_off_at_a_fault : Type 0
cut_off_at_a_fault = Prints hart_too_great (codes "1 rec") (Err Output)

-- and where nobody reads it any more
abbrev pub unread : Type 0
unread = Prints used_once (codes "1 rec") (Err (BrokenPipe false))

abbrev pub unread_at_a_fault : Type 0
unread_at_a_fault =
    Prints hart_too_great (codes "1 rec") (Err (BrokenPipeAtLine 3 (fault_at 3 (NoHart 2 1)) false))

-- what is not so: another line, another fault of the line, a fault that counts for nothing, a verdict
-- where there is none, no last line
abbrev pub other_line : Type 0
other_line =
    ¬ Prints hart_too_great (codes "1 record before line 3, no verdict\n") (Err (Line 4 (fault_at 3 (NoHart 2 1)) false))

abbrev pub other_fault : Type 0
other_fault =
    ¬ Prints hart_too_great (codes "1 record before line 3, no verdict\n") (Err (Line 3 (fault_at 4 (NoHart 2 1)) false))

abbrev pub done_with_a_fault : Type 0
done_with_a_fault = ¬ Prints hart_too_great (codes "1 record, no verdict\n") (Ok false)

abbrev pub warned_without_a_verdict : Type 0
warned_without_a_verdict = ¬ Prints used_once (codes "1 record, no verdict\n") (Ok true)

abbrev pub warned_at_a_fault : Type 0
warned_at_a_fault =
    ¬ Prints hart_too_great (codes "1 record before line 3, no verdict\n") (Err (Line 3 (fault_at 3 (NoHart 2 1)) true))

abbrev pub warned_without_a_header : Type 0
warned_without_a_header =
    ¬ Prints (codes "u 0 1000\n") [] (Err (Line 1 (fault_at 1 NoTrace) true))

-- nor a last line as of a whole trace
abbrev pub whole_at_a_fault : Type 0
whole_at_a_fault =
    ¬ Prints hart_too_great (codes "1 record, no verdict\n") (Err (Line 3 (fault_at 3 (NoHart 2 1)) false))

abbrev pub no_last_line_at_a_fault : Type 0
no_last_line_at_a_fault = ¬ Prints hart_too_great [] (Err (Line 3 (fault_at 3 (NoHart 2 1)) false))

abbrev pub nothing_printed : Type 0
nothing_printed = ¬ Prints (codes "watch 1 2 sv39") [] (Ok false)

-- where nobody reads on: a wrong line that is not told, a verdict where there is none, other bytes
abbrev pub unread_before_a_fault : Type 0
unread_before_a_fault = ¬ Prints hart_too_great [] (Err (BrokenPipe false))

abbrev pub unread_without_a_verdict : Type 0
unread_without_a_verdict = ¬ Prints (codes "watch 1 2 sv39") [] (Err (BrokenPipe true))

abbrev pub unread_other_bytes : Type 0
unread_other_bytes = ¬ Prints used_once (codes "no") (Err (BrokenPipe false))

-- ---- verdicts

-- a comment and an empty line stand before the records, and a mark between them
abbrev pub unmapped : List ℕ
unmapped =
    codes "watch 1 2 sv39\n# hart 1 holds a page\n\nw 0 80000000 0 @unmap\nm free\nz 0 100 1 @free_page\n"
    ++ codes "u 1 1abc"

-- the records stand on lines 4, 6 and 7; the newest comes first
abbrev pub records : List Noted
records =
    record { made = Use 1 0x1ABC; by = []; line = 7 }
    ∷ record { made = GiveBack 0 (record { first = 0x100; count = 1 }); by = codes "free_page"; line = 6 }
    ∷ record { made = Store 0 0x80000000 0; by = codes "unmap"; line = 4 } ∷ []

abbrev pub lines_of_records : Type 0
lines_of_records =
    records_of (record { harts = 2; scheme = Sv39 }) (body_of unmapped) ≡ records

abbrev pub entry_of : Bool → Entry
entry_of global =
    record {
      asid = 1;
      global = global;
      page = record { base = 0x1000; size = Kib4 };
      ppn = 0x100;
      flags = record { 0 = 0xD6 };
    }

-- hart 1 may hold the page, which has been stale since the first record
abbrev pub warning_of : Verdict → Bool → Warning
warning_of verdict global =
    record {
      verdict = verdict;
      hart = 1;
      root = 0x80000;
      entry = entry_of global;
      stale_since = 1;
    }

-- the last two records have a verdict each
abbrev pub given : List (List Warning)
given = (warning_of Used false ∷ []) ∷ (warning_of Free false ∷ []) ∷ [] ∷ []

-- the second has two, the first of them on a global page
abbrev pub given_both : List (List Warning)
given_both = [] ∷ (warning_of Free true ∷ warning_of Free false ∷ []) ∷ [] ∷ []

-- what is told of the records, and at the end
abbrev pub Says : Detail → List (List Warning) → List ℕ → List ℕ → Type 0
Says detail given text last =
    (told_text (about detail) Sv39 records given ≡ text)
    × (end_text (about detail) None Sv39 records given ≡ last)

abbrev pub free_line : List ℕ
free_line =
    codes "a.trace:6: free hart 1 may hold page 1000+1000 -> 100 rw-u- asid 1 root 80000, "
    ++ codes "stale since line 4 by unmap; frames 100+1 given back by free_page\n"

abbrev pub use_line : List ℕ
use_line =
    codes "a.trace:7: use hart 1 may hold page 1000+1000 -> 100 rw-u- asid 1 root 80000, "
    ++ codes "stale since line 4 by unmap; hart 1 uses 1abc\n"

abbrev pub kernel_line : List ℕ
kernel_line =
    codes "a.trace:6: kernel-free hart 1 may hold page 1000+1000 -> 100 rw-ug asid any root any, "
    ++ codes "stale since line 4 by unmap; frames 100+1 given back by free_page\n"

abbrev pub last_line : List ℕ
last_line = codes "3 records, 2 verdicts: free 1, use 1\n"

abbrev pub lines_of_verdicts : Type 0
lines_of_verdicts = Says Verdicts given (free_line ++ use_line) last_line

-- both verdicts are of one finding
abbrev pub block_of_cause : List ℕ
block_of_cause =
    free_line ++ codes "  cause 1: user pages, first free: no flush of the page has begun since\n"

-- and below its line at the end the note of the store
abbrev pub total_of_cause : List ℕ
total_of_cause =
    codes "a.trace:6: cause 1: user pages, first free: no flush of the page has begun since; "
    ++ codes "1 finding: free 1, use 1\n"
    ++ codes "  stale by unmap: 1 finding, 1 page of 1 space, hart 1; used 1\n"

abbrev pub lines_of_cause : Type 0
lines_of_cause = Says Causes given block_of_cause (total_of_cause ++ last_line)

-- the kernel's cause begins first, and comes last at the end
abbrev pub lines_of_causes : Type 0
lines_of_causes =
    Says Causes given_both
    (kernel_line ++ codes "  cause 1: kernel pages, first free: no flush of the page has begun since\n"
    ++ free_line ++ codes "  cause 2: user pages, first free: no flush of the page has begun since\n")
    (codes "a.trace:6: cause 2: user pages, first free: no flush of the page has begun since; 1 finding: free 1\n"
    ++ codes "  stale by unmap: 1 finding, 1 page of 1 space, hart 1; not reached 1\n"
    ++ codes "a.trace:6: cause 1: kernel pages, first free: no flush of the page has begun since; 1 finding: free 1\n"
    ++ codes "  stale by unmap: 1 finding, 1 page, hart 1; not reached 1\n"
    ++ codes "3 records, 2 verdicts: free 1, kernel-free 1\n")

abbrev pub counts_alone : Type 0
counts_alone = Says Counts given [] last_line

-- what is not told: the number of a record in place of its line, a cause without a block, or without a
-- line at the end, a block where counts are wanted
abbrev pub numbers_of_records : Type 0
numbers_of_records =
    ¬ Says Verdicts given
    (codes "a.trace:2: free hart 1 may hold page 1000+1000 -> 100 rw-u- asid 1 root 80000, "
    ++ codes "stale since line 1 by unmap; frames 100+1 given back by free_page\n"
    ++ codes "a.trace:3: use hart 1 may hold page 1000+1000 -> 100 rw-u- asid 1 root 80000, "
    ++ codes "stale since line 1 by unmap; hart 1 uses 1abc\n")
    last_line

abbrev pub no_block : Type 0
no_block = ¬ Says Causes given [] (total_of_cause ++ last_line)

abbrev pub no_total : Type 0
no_total = ¬ Says Causes given block_of_cause last_line

abbrev pub block_of_counts : Type 0
block_of_counts = ¬ Says Counts given block_of_cause last_line

-- ---- the order at a record

abbrev pub of_hart : ℕ → Warning → Warning
of_hart hart w = record w { hart = hart }

abbrev pub with_entry : Entry → Warning → Warning
with_entry e w = record w { entry = e }

-- on the page behind the other
abbrev pub on_next_page : Warning → Warning
on_next_page w = with_entry (record w.entry { page = record { base = 0x2000; size = Kib4 } }) w

abbrev pub by_hart : Type 0
by_hart =
    IsInOrder
    (of_hart 0 (on_next_page (warning_of Free false)) ∷ warning_of Free false ∷ of_hart 2 (warning_of Free false) ∷ [])

abbrev pub by_page : Type 0
by_page = IsInOrder (warning_of Used true ∷ on_next_page (warning_of Free false) ∷ [])

abbrev pub by_owner : Type 0
by_owner = IsInOrder (warning_of Used false ∷ warning_of Free true ∷ [])

abbrev pub by_kind : Type 0
by_kind = IsInOrder (warning_of Free false ∷ warning_of Used false ∷ [])

abbrev pub hart_too_late : Type 0
hart_too_late = ¬ IsInOrder (warning_of Free false ∷ of_hart 0 (warning_of Free false) ∷ [])

abbrev pub page_too_late : Type 0
page_too_late = ¬ IsInOrder (on_next_page (warning_of Free false) ∷ warning_of Free false ∷ [])

abbrev pub kind_too_late : Type 0
kind_too_late = ¬ IsInOrder (warning_of Used false ∷ warning_of Free false ∷ [])

-- on a larger page
abbrev pub by_size : Type 0
by_size =
    IsInOrder
    (warning_of Used true
    ∷ with_entry (record (entry_of false) { page = record { base = 0x1000; size = Mib2 } }) (warning_of Free false) ∷ [])

abbrev pub by_ppn : Type 0
by_ppn =
    IsInOrder
    (warning_of Used true ∷ with_entry (record (entry_of false) { ppn = 0x101 }) (warning_of Free false) ∷ [])

abbrev pub with_flags : ℕ → Warning
with_flags flags = with_entry (record (entry_of false) { flags = record { 0 = flags } }) (warning_of Free false)

-- R, RW, RX and RU
abbrev pub by_rights : Type 0
by_rights = IsInOrder (with_flags 0x3 ∷ with_flags 0x7 ∷ with_flags 0xB ∷ with_flags 0x13 ∷ [])

abbrev pub of_space : ℕ → ℕ → Warning
of_space root asid =
    record (with_entry (record (entry_of false) { asid = asid }) (warning_of Free false)) { root = root }

abbrev pub by_root : Type 0
by_root = IsInOrder (of_space 0x80000 2 ∷ of_space 0x80001 1 ∷ [])

abbrev pub rights_too_late : Type 0
rights_too_late = ¬ IsInOrder (with_flags 0x13 ∷ with_flags 0xB ∷ [])

abbrev pub root_too_late : Type 0
root_too_late = ¬ IsInOrder (of_space 0x80001 1 ∷ of_space 0x80000 2 ∷ [])
