-- Worked lines of verdicts and of counts: what was worked out by hand from the form of the line.
use Rattle.std.specs.Prelude.{◌≡◌, ℕ, true, false, codes, [], ◌∷◌, Some, None}
use Rattle.pte.specs.declared.address.PageSize.{PageSize}
use Rattle.pte.specs.declared.address.PageSize.TheVariants.{Kib4, Mib2}
use Rattle.pte.specs.Address.{Span}
use Rattle.tlb.specs.declared.store.Entry.{Entry}
use Rattle.watch.specs.declared.trace.Frames.{Frames}
use Rattle.watch_report.specs.declared.counts.VerdictCounts.{VerdictCounts}
use Rattle.watch_report.specs.declared.warning.Trigger.{Trigger}
use Rattle.watch_report.specs.declared.warning.Trigger.TheVariants.{GivenBack, GivenOut, ClaimedSince, UsedAt}
use Rattle.watch_report.specs.declared.warning.Warning.{Warning}
use Rattle.watch_report.specs.Warnings.{summary_line, warning_line}

abbrev pub page_at : ℕ → PageSize → Span
page_at base size = record { base = base; size = size }

-- R, W and U; the frame 0x100; ASID 10
abbrev pub user_page : Entry
user_page = record {
  asid = 10;
  global = false;
  page = page_at 0x1000 Kib4;
  ppn = 0x100;
  flags = record { 0 = 0x16 };
}

-- R, X and G; the frames from 0x80200 on
abbrev pub kernel_page : Entry
kernel_page = record {
  asid = 10;
  global = true;
  page = page_at 0xFFFFFFC000200000 Mib2;
  ppn = 0x80200;
  flags = record { 0 = 0x2A };
}

-- hart 11 may hold the page, of the root 0x80000, stale since line 6
abbrev pub warning_of : ℕ → Entry → Trigger → Warning
warning_of line entry trigger = record {
  line = line;
  hart = 11;
  root = 0x80000;
  entry = entry;
  since = 6;
  trigger = trigger;
}

abbrev pub frames_at : ℕ → ℕ → Frames
frames_at first count = record { first = first; count = count }

abbrev pub given_back : Type 0
given_back =
    warning_line (codes "boot.watch") (warning_of 18 user_page (GivenBack (frames_at 0x100 1))) (codes "unmap")
    (codes "free_page")
    ≡ codes "boot.watch:18: free hart 11 may hold page 1000+1000 -> 100 rw-u- asid a root 80000, stale since line 6 by unmap; frames 100+1 given back by free_page\n"

abbrev pub given_out : Type 0
given_out =
    warning_line (codes "-") (warning_of 20 user_page (GivenOut (frames_at 0xFF 10))) [] []
    ≡ codes "-:20: reuse hart 11 may hold page 1000+1000 -> 100 rw-u- asid a root 80000, stale since line 6; frames ff+a given out\n"

-- notes with bytes that a terminal may take for commands
abbrev pub other_bytes : Type 0
other_bytes =
    warning_line (codes "-") (warning_of 20 user_page (GivenOut (frames_at 0xFF 10)))
    (27 ∷ 91 ∷ 0xC3 ∷ 9 ∷ []) (127 ∷ 32 ∷ 126 ∷ [])
    ≡ codes "-:20: reuse hart 11 may hold page 1000+1000 -> 100 rw-u- asid a root 80000, stale since line 6 by \\x1b[\\xc3\\x09; frames ff+a given out by \\x7f ~\n"

-- a page that is global by a pointer above its leaf, which has no G
abbrev pub below_a_global_pointer : Type 0
below_a_global_pointer =
    warning_line (codes "a b")
    (warning_of 22 (record kernel_page { flags = record { 0 = 0x0A } }) (GivenOut (frames_at 0x80200 1)))
    [] []
    ≡ codes "a b:22: kernel-reuse hart 11 may hold page ffffffc000200000+200000 -> 80200 r-x-g asid any root any, stale since line 6; frames 80200+1 given out\n"

abbrev pub claimed : Type 0
claimed =
    warning_line (codes "boot.watch") (warning_of 21 kernel_page (ClaimedSince 17)) [] (codes "flush of 2 pages")
    ≡ codes "boot.watch:21: kernel-claim hart 11 may hold page ffffffc000200000+200000 -> 80200 r-x-g asid any root any, stale since line 6; claimed clean since line 17 by flush of 2 pages\n"

abbrev pub used : Type 0
used =
    warning_line (codes "traces/boot") (warning_of 22 user_page (UsedAt 0x1ABC)) (codes "unmap") []
    ≡ codes "traces/boot:22: use hart 11 may hold page 1000+1000 -> 100 rw-u- asid a root 80000, stale since line 6 by unmap; hart 11 uses 1abc\n"

-- ---- the last line

abbrev pub counts : ℕ → ℕ → ℕ → ℕ → VerdictCounts
counts free reuse claimed used =
    record { free = free; reuse = reuse; claimed = claimed; used = used }

abbrev pub no_verdict : Type 0
no_verdict =
    summary_line 17 None (counts 0 0 0 0) (counts 0 0 0 0) None ≡ codes "17 records, no verdict\n"

abbrev pub one_record : Type 0
one_record =
    summary_line 1 None (counts 0 0 0 0) (counts 0 0 0 0) None ≡ codes "1 record, no verdict\n"

abbrev pub one_verdict : Type 0
one_verdict =
    summary_line 11 None (counts 0 0 0 0) (counts 0 1 0 0) None
    ≡ codes "11 records, 1 verdict: kernel-reuse 1\n"

abbrev pub some_verdicts : Type 0
some_verdicts =
    summary_line 17 None (counts 3 1 0 0) (counts 0 0 0 0) None
    ≡ codes "17 records, 4 verdicts: free 3, reuse 1\n"

abbrev pub verdicts_of_both : Type 0
verdicts_of_both =
    summary_line 17 None (counts 0 0 5 0) (counts 0 0 0 10) None
    ≡ codes "17 records, 15 verdicts: claim 5, kernel-use 10\n"

abbrev pub all_verdicts : Type 0
all_verdicts =
    summary_line 100 None (counts 1 2 3 4) (counts 5 6 7 8) None
    ≡ codes "100 records, 36 verdicts: free 1, reuse 2, claim 3, use 4, kernel-free 5, kernel-reuse 6, kernel-claim 7, kernel-use 8\n"

abbrev pub before_a_wrong_line : Type 0
before_a_wrong_line =
    summary_line 17 (Some 19) (counts 0 0 0 0) (counts 0 0 0 0) None
    ≡ codes "17 records before line 19, no verdict\n"

abbrev pub one_before_a_wrong_line : Type 0
one_before_a_wrong_line =
    summary_line 1 (Some 1000) (counts 0 0 0 1) (counts 0 0 0 0) None
    ≡ codes "1 record before line 1000, 1 verdict: use 1\n"

-- ---- what is known to be by design

abbrev pub none_by_design : Type 0
none_by_design =
    summary_line 17 None (counts 0 0 0 0) (counts 0 0 0 0) (Some 0)
    ≡ codes "17 records, no verdict; no finding by design\n"

abbrev pub one_by_design : Type 0
one_by_design =
    summary_line 17 None (counts 3 1 0 0) (counts 0 0 0 0) (Some 1)
    ≡ codes "17 records, 4 verdicts: free 3, reuse 1; 1 finding by design\n"

abbrev pub many_by_design : Type 0
many_by_design =
    summary_line 17 (Some 19) (counts 0 0 0 0) (counts 0 0 0 0) (Some 368)
    ≡ codes "17 records before line 19, no verdict; 368 findings by design\n"
