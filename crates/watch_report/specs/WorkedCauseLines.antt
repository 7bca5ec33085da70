-- Worked lines of causes, and their order at the end: what was worked out by hand.
use Rattle.std.specs.Prelude.{◌≡◌, ℕ, Bool, true, false, codes, [], ◌∷◌, ◌++◌}
use Rattle.watch.specs.declared.trace.Verdict.{Verdict}
use Rattle.watch.specs.declared.trace.Verdict.TheVariants.{Free, Reuse, Claimed, Used}
use Rattle.watch.specs.WorkedTraces.{page, writable}
use Rattle.watch_engine.specs.WorkedWarnings.{warning}
use Rattle.watch_causes.specs.declared.finding.Cause.{Cause}
use Rattle.watch_causes.specs.declared.reach.Reach.{Reach}
use Rattle.watch_causes.specs.declared.reach.Reach.TheVariants as reaches
use Rattle.watch_causes.specs.declared.reason.Reason.{Reason}
use Rattle.watch_causes.specs.declared.reason.Reason.TheVariants.{NoFlush, NoFence, OtherHarts, OtherSpaces, OtherPages, NotDone}
use Rattle.watch_causes.specs.declared.tally.Tally.{Tally}
use Rattle.watch_causes.specs.declared.tally.Verdicts.{Verdicts}
use Rattle.watch_causes.specs.WorkedCauses.{counts}
use Rattle.watch_report.specs.declared.warning.Trigger.TheVariants.{GivenBack, ClaimedSince}
use Rattle.watch_report.specs.declared.found.Found.{Found}
use Rattle.watch_report.specs.CauseLines.{block_text, cause_text, numbered, ordered, total_line}
use Rattle.watch_report.specs.WorkedWarnings.{frames_at, kernel_page, user_page, warning_of}

abbrev pub cause_of : Bool → Verdict → Reason → Cause
cause_of global first reason = record { global = global; first = first; reason = reason }

abbrev pub users : Verdict → Reason → Cause
users first reason = cause_of false first reason

abbrev pub kernels : Verdict → Reason → Cause
kernels first reason = cause_of true first reason

abbrev pub tally_of : Cause → ℕ → Verdicts → Tally
tally_of cause findings verdicts =
    record {
      cause = cause;
      findings = findings;
      verdicts = verdicts;
      example = record { number = 8; warning = warning Free 1 (page writable) 6 };
    }

-- ---- each reason

abbrev pub no_flush : Type 0
no_flush =
    cause_text (users Used NoFlush)
    ≡ codes "user pages, first use: no flush of the page has begun since"

abbrev pub no_fence : Type 0
no_fence =
    cause_text (kernels Claimed NoFence)
    ≡ codes "kernel pages, first claim: its flush asked for no fence"

abbrev pub other_harts : Type 0
other_harts =
    cause_text (users Claimed OtherHarts)
    ≡ codes "user pages, first claim: its flush asked for no fence on this hart"

abbrev pub other_spaces : Type 0
other_spaces =
    cause_text (users Free OtherSpaces)
    ≡ codes "user pages, first free: its flush fenced another ASID"

abbrev pub spaces_of_kernel : Type 0
spaces_of_kernel =
    cause_text (kernels Free OtherSpaces)
    ≡ codes "kernel pages, first free: its flush fenced by ASID, which leaves global pages"

abbrev pub other_pages : Type 0
other_pages =
    cause_text (users Reuse OtherPages)
    ≡ codes "user pages, first reuse: its flush fenced other pages"

abbrev pub not_done : Type 0
not_done =
    cause_text (users Free NotDone)
    ≡ codes "user pages, first free: its flush asked for a fence that was not done yet"

-- ---- where a cause begins

abbrev pub claim_begins : Type 0
claim_begins =
    block_text (codes "boot.watch") 3 (users Claimed OtherHarts)
    (warning_of 21 user_page (ClaimedSince 17)) (codes "unmap") (codes "flush_page")
    ≡ codes "boot.watch:21: claim hart 11 may hold page 1000+1000 -> 100 rw-u- asid a root 80000, stale since line 6 by unmap; claimed clean since line 17 by flush_page\n"
    ++ codes "  cause 3: user pages, first claim: its flush asked for no fence on this hart\n"

abbrev pub free_begins : Type 0
free_begins =
    block_text (codes "-") 12 (kernels Free NoFlush)
    (warning_of 100 kernel_page (GivenBack (frames_at 0x80200 512))) [] []
    ≡ codes "-:100: kernel-free hart 11 may hold page ffffffc000200000+200000 -> 80200 r-x-g asid any root any, stale since line 6; frames 80200+200 given back\n"
    ++ codes "  cause 12: kernel pages, first free: no flush of the page has begun since\n"

-- ---- at the end

abbrev pub one_finding : Type 0
one_finding =
    total_line (codes "boot.watch") 40 (numbered 3 reaches.NotReached (tally_of (users Claimed OtherHarts) 1 (counts 1 0 1 1)))
    ≡ codes "boot.watch:40: cause 3: user pages, first claim: its flush asked for no fence on this hart; 1 finding: free 1, claim 1, use 1\n"

abbrev pub one_kind : Type 0
one_kind =
    total_line (codes "-") 2 (numbered 1 reaches.NotReached (tally_of (users Used NoFlush) 2 (counts 0 0 0 5)))
    ≡ codes "-:2: cause 1: user pages, first use: no flush of the page has begun since; 2 findings: use 5\n"

abbrev pub each_kind : Type 0
each_kind =
    total_line (codes "a b") 1000 (numbered 12 reaches.NotReached (tally_of (kernels Free NotDone) 11 (counts 11 2 3 40)))
    ≡ codes "a b:1000: cause 12: kernel pages, first free: its flush asked for a fence that was not done yet; 11 findings: free 11, reuse 2, claim 3, use 40\n"

-- ---- in which order

abbrev pub few : Tally
few = tally_of (users Claimed NoFence) 2 (counts 0 0 2 0)

abbrev pub as_few : Tally
as_few = tally_of (users Free NoFlush) 2 (counts 9 0 0 0)

abbrev pub many : Tally
many = tally_of (users Used NoFlush) 3 (counts 0 0 0 3)

abbrev pub reused : Tally
reused = tally_of (users Free NotDone) 1 (counts 1 1 0 0)

abbrev pub few_of_kernel : Tally
few_of_kernel = tally_of (kernels Claimed NoFence) 20 (counts 0 0 20 0)

abbrev pub many_of_kernel : Tally
many_of_kernel = tally_of (kernels Used NoFence) 30 (counts 0 0 0 30)

abbrev pub reused_of_kernel : Tally
reused_of_kernel = tally_of (kernels Free NoFlush) 10 (counts 10 10 0 0)

-- users' before the kernel's; reused before others; more findings before fewer
abbrev pub one_of_each : Type 0
one_of_each =
    ordered [] (few ∷ reused_of_kernel ∷ many ∷ reused ∷ [])
    ≡ numbered 4 reaches.NotReached reused ∷ numbered 3 reaches.NotReached many ∷ numbered 1 reaches.NotReached few ∷ numbered 2 reaches.NotReached reused_of_kernel ∷ []

abbrev pub of_kernel_alone : Type 0
of_kernel_alone =
    ordered [] (few_of_kernel ∷ many_of_kernel ∷ reused_of_kernel ∷ [])
    ≡ numbered 3 reaches.NotReached reused_of_kernel ∷ numbered 2 reaches.NotReached many_of_kernel ∷ numbered 1 reaches.NotReached few_of_kernel ∷ []

-- what is alike stays as it began
abbrev pub alike : Type 0
alike =
    ordered [] (few ∷ as_few ∷ few ∷ [])
    ≡ numbered 1 reaches.NotReached few ∷ numbered 2 reaches.NotReached as_few ∷ numbered 3 reaches.NotReached few ∷ []

-- a finding of the cause with the number
abbrev pub found_of : ℕ → Reach → Found
found_of number reach =
    record {
      number = number;
      begun = record { number = 8; warning = warning Free 1 (page writable) 6; cause = users Free NoFlush; fenced = 0 };
      reach = reach;
    }

-- used before reachable before not reached, though the others have more findings; the best of a cause
-- counts
abbrev pub by_reach : Type 0
by_reach =
    ordered
    (found_of 1 reaches.NotReached ∷ found_of 2 reaches.NotReached ∷ found_of 3 reaches.Reachable ∷ found_of 2 reaches.Used ∷ found_of 3 reaches.NotReached ∷ [])
    (many ∷ few ∷ as_few ∷ [])
    ≡ numbered 2 reaches.Used few ∷ numbered 3 reaches.Reachable as_few ∷ numbered 1 reaches.NotReached many ∷ []

-- a cause with a `reuse` comes before one that is used; what is alike in its reach goes by its findings
abbrev pub reuse_before_reach : Type 0
reuse_before_reach =
    ordered (found_of 1 reaches.Used ∷ found_of 2 reaches.Used ∷ found_of 3 reaches.NotReached ∷ []) (few ∷ many ∷ reused ∷ [])
    ≡ numbered 3 reaches.NotReached reused ∷ numbered 2 reaches.Used many ∷ numbered 1 reaches.Used few ∷ []

-- users' pages before the kernel's, however far these are reached
abbrev pub users_before_reach : Type 0
users_before_reach =
    ordered (found_of 1 reaches.Used ∷ found_of 2 reaches.NotReached ∷ []) (few_of_kernel ∷ few ∷ [])
    ≡ numbered 2 reaches.NotReached few ∷ numbered 1 reaches.Used few_of_kernel ∷ []

abbrev pub none : Type 0
none = ordered [] [] ≡ []

-- what is not so: the kernel's first, fewer findings first, what is alike the other way round
abbrev pub kernels_first : Type 0
kernels_first =
    ¬ (ordered [] (few ∷ reused_of_kernel ∷ many ∷ reused ∷ [])
    ≡ numbered 2 reaches.NotReached reused_of_kernel ∷ numbered 4 reaches.NotReached reused ∷ numbered 3 reaches.NotReached many ∷ numbered 1 reaches.NotReached few ∷ [])

abbrev pub fewer_first : Type 0
fewer_first = ¬ (ordered [] (few ∷ many ∷ []) ≡ numbered 1 reaches.NotReached few ∷ numbered 2 reaches.NotReached many ∷ [])

abbrev pub last_first : Type 0
last_first = ¬ (ordered [] (few ∷ as_few ∷ []) ≡ numbered 2 reaches.NotReached as_few ∷ numbered 1 reaches.NotReached few ∷ [])

-- nor more findings before a better reach
abbrev pub more_before_used : Type 0
more_before_used =
    ¬ (ordered (found_of 1 reaches.Used ∷ []) (few ∷ many ∷ [])
    ≡ numbered 2 reaches.NotReached many ∷ numbered 1 reaches.Used few ∷ [])

abbrev pub not_reached_before_reachable : Type 0
not_reached_before_reachable =
    ¬ (ordered (found_of 1 reaches.Reachable ∷ found_of 2 reaches.NotReached ∷ []) (few ∷ many ∷ [])
    ≡ numbered 2 reaches.NotReached many ∷ numbered 1 reaches.Reachable few ∷ [])
