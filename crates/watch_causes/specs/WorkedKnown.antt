-- Worked findings that are known: entries and verdicts, by hand. The page is that of the worked traces
-- of `watch`, of 4 KiB at 0x1000, which hart 1 may hold, stale since record 6, where nothing else is
-- said.
use Rattle.std.specs.Prelude.{ℕ, Bool, true, false, ◌≡◌, ◌==◌, if◌then◌else◌, List, [], ◌∷◌, Option, Some, None, codes}
use Rattle.watch.specs.declared.trace.Verdict.{Verdict}
use Rattle.watch.specs.declared.trace.Verdict.TheVariants.{Free, Reuse, Used}
use Rattle.watch.specs.WorkedTraces.{global_page, page, writable}
use Rattle.watch_engine.specs.WorkedWarnings.{warning}
use Rattle.watch_causes.specs.declared.reason.Reason.{Reason}
use Rattle.watch_causes.specs.declared.reason.Reason.TheVariants.{NoFlush, NoFence, OtherHarts}
use Rattle.watch_causes.specs.Findings.{Judged}
use Rattle.watch_causes.specs.declared.finding.Finding.{Finding}
use Rattle.watch_causes.specs.declared.reach.Reach.{Reach}
use Rattle.watch_causes.specs.declared.reach.Reach.TheVariants.{Used as UsedReach, Reachable, NotReached}
use Rattle.watch_causes.specs.KnownFindings.{KnownEntry, Sourced, counts_of, is_known, is_of_reach, matches, resolved_by}
use Rattle.watch_causes.specs.WorkedCauses.{at, freed}

-- a verdict whose page a record with this note made stale
abbrev pub noted : List ℕ → Judged → Sourced
noted by v = record { judged = v; by = by }

-- the frame of the page, and of a page of the kernel, is freed
abbrev pub unmapped : Sourced
unmapped = noted (codes "vunmap area 3") freed

abbrev pub unmapped_global : Sourced
unmapped_global = noted (codes "vunmap area 3") (at 8 (warning Free 1 global_page 6) OtherHarts)

-- an entry with no test but the owner, and those with one more
abbrev pub of_user : KnownEntry
of_user =
    record {
      line = 1;
      global = false;
      first = None;
      reason = None;
      reach = None;
      among = λ f. true;
      range = None;
      note = [];
    }

abbrev pub of_kernel : KnownEntry
of_kernel = record of_user { global = true }

abbrev pub of_first : Verdict → KnownEntry
of_first first = record of_user { first = Some first }

abbrev pub of_reason : Reason → KnownEntry
of_reason reason = record of_user { reason = Some reason }

abbrev pub of_range : ℕ → ℕ → KnownEntry
of_range start size = record of_user { range = Some (record { start = start; size = size }) }

-- where the findings of no hart, or of hart 1, are used
abbrev pub of_reach : Reach → KnownEntry
of_reach reach = record of_user { reach = Some reach; among = λ f. is_of_reach (Some reach) None }

abbrev pub used_by_one : Finding → Option Reach
used_by_one f = if f.hart == 1 then Some UsedReach else Some NotReached

abbrev pub of_note : List ℕ → KnownEntry
of_note note = record of_user { note = note }

-- ---- tests

abbrev pub passes : KnownEntry → Sourced → Type 0
passes entry v = matches entry v ≡ true

abbrev pub fails : KnownEntry → Sourced → Type 0
fails entry v = matches entry v ≡ false

abbrev pub user_passes : Type 0
user_passes = passes of_user unmapped

abbrev pub user_fails : Type 0
user_fails = fails of_user unmapped_global

abbrev pub kernel_passes : Type 0
kernel_passes = passes of_kernel unmapped_global

abbrev pub kernel_fails : Type 0
kernel_fails = fails of_kernel unmapped

abbrev pub first_passes : Type 0
first_passes = passes (of_first Free) unmapped

abbrev pub first_fails : Type 0
first_fails = fails (of_first Reuse) unmapped

abbrev pub reason_passes : Type 0
reason_passes = passes (of_reason OtherHarts) unmapped

abbrev pub reason_fails : Type 0
reason_fails = fails (of_reason NoFence) unmapped

-- the reach of the finding on the whole trace: used, and not, and not known
abbrev pub reach_passes : Type 0
reach_passes = passes (resolved_by used_by_one (of_reach UsedReach)) unmapped

abbrev pub reach_fails : Type 0
reach_fails = fails (resolved_by used_by_one (of_reach Reachable)) unmapped

abbrev pub other_reach_fails : Type 0
other_reach_fails = fails (resolved_by used_by_one (of_reach NotReached)) unmapped

abbrev pub unknown_reach_fails : Type 0
unknown_reach_fails = fails (of_reach UsedReach) unmapped

abbrev pub no_reach_passes : Type 0
no_reach_passes = passes (resolved_by used_by_one of_user) unmapped

-- the range ends with the first byte of the page, and before it; begins with the last byte, and behind
-- it; and has no byte
abbrev pub range_before_passes : Type 0
range_before_passes = passes (of_range 0x800 0x801) unmapped

abbrev pub range_before_fails : Type 0
range_before_fails = fails (of_range 0x800 0x800) unmapped

abbrev pub range_behind_passes : Type 0
range_behind_passes = passes (of_range 0x1FFF 0x10) unmapped

abbrev pub range_behind_fails : Type 0
range_behind_fails = fails (of_range 0x2000 0x10) unmapped

abbrev pub no_byte_fails : Type 0
no_byte_fails = fails (of_range 0x1800 0) unmapped

-- the whole note, and its beginning; more than it, what stands later in it, and another
abbrev pub whole_note_passes : Type 0
whole_note_passes = passes (of_note (codes "vunmap area 3")) unmapped

abbrev pub note_passes : Type 0
note_passes = passes (of_note (codes "vunmap ")) unmapped

abbrev pub longer_note_fails : Type 0
longer_note_fails = fails (of_note (codes "vunmap area 37")) unmapped

abbrev pub later_note_fails : Type 0
later_note_fails = fails (of_note (codes "area 3")) unmapped

abbrev pub other_note_fails : Type 0
other_note_fails = fails (of_note (codes "vunlap ")) unmapped

-- a record with no note
abbrev pub no_note_passes : Type 0
no_note_passes = passes of_user (noted [] freed)

abbrev pub no_note_fails : Type 0
no_note_fails = fails (of_note (codes "v")) (noted [] freed)

-- all tests, and the same verdict but for its kind
abbrev pub of_all : KnownEntry
of_all =
    record {
      line = 7;
      global = false;
      first = Some Free;
      reason = Some OtherHarts;
      reach = None;
      among = λ f. true;
      range = Some (record { start = 0x1000; size = 0x1000 });
      note = codes "vunmap";
    }

abbrev pub all_pass : Type 0
all_pass = passes of_all unmapped

abbrev pub all_but_one_fail : Type 0
all_but_one_fail = fails of_all (noted (codes "vunmap area 3") (at 8 (warning Used 1 (page writable) 6) OtherHarts))

-- ---- findings

-- a use of the same finding, for another reason; of another hart, or since another record, it is of
-- another finding
abbrev pub used : ℕ → ℕ → Sourced
used number hart = noted (codes "vunmap area 3") (at number (warning Used hart (page writable) 6) NoFlush)

abbrev pub used_since_another : Sourced
used_since_another = noted (codes "vunmap area 3") (at 9 (warning Used 1 (page writable) 7) NoFlush)

abbrev pub is_so : List KnownEntry → Sourced → List Sourced → Bool → Type 0
is_so known next verdicts answer = is_known known next verdicts ≡ answer

abbrev pub begins_known : Type 0
begins_known = is_so (of_all ∷ []) unmapped [] true

abbrev pub begins_unknown : Type 0
begins_unknown = is_so (of_all ∷ []) (used 8 1) [] false

-- a later verdict is as the first, whether an entry matches it or not
abbrev pub stays_known : Type 0
stays_known = is_so (of_all ∷ []) (used 9 1) (unmapped ∷ []) true

abbrev pub stays_unknown : Type 0
stays_unknown = is_so (of_all ∷ []) unmapped (used 7 1 ∷ []) false

abbrev pub other_hart_is_not : Type 0
other_hart_is_not = is_so (of_all ∷ []) (used 9 2) (unmapped ∷ []) false

abbrev pub other_record_is_not : Type 0
other_record_is_not = is_so (of_all ∷ []) used_since_another (unmapped ∷ []) false

-- an entry that matches behind one that does not
abbrev pub second_entry : Type 0
second_entry = is_so (of_kernel ∷ of_all ∷ []) unmapped [] true

-- ---- counts

abbrev pub counted : List KnownEntry → List Sourced → List ℕ → Type 0
counted known verdicts counts = counts_of known verdicts ≡ counts

abbrev pub counts_nothing : Type 0
counts_nothing = counted (of_kernel ∷ of_all ∷ []) [] (0 ∷ 0 ∷ [])

-- two verdicts of one finding, and a verdict of another
abbrev pub counts_one : Type 0
counts_one = counted (of_all ∷ []) (used 9 1 ∷ unmapped ∷ []) (1 ∷ [])

abbrev pub counts_first_match : Type 0
counts_first_match = counted (of_kernel ∷ of_all ∷ of_user ∷ []) (unmapped ∷ []) (0 ∷ 1 ∷ 0 ∷ [])

abbrev pub counts_each : Type 0
counts_each =
    counted (of_kernel ∷ of_all ∷ of_user ∷ [])
    (used 11 3 ∷ used 10 2 ∷ used 9 1 ∷ unmapped ∷ []) (0 ∷ 1 ∷ 2 ∷ [])

abbrev pub counts_first_verdict : Type 0
counts_first_verdict = counted (of_all ∷ []) (unmapped ∷ used 7 1 ∷ []) (0 ∷ [])
