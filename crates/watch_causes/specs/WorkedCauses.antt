-- Worked causes: the tallies of some verdicts, by hand. The page is that of the worked traces of
-- `watch`, which hart 1 may hold, stale since record 6, where nothing else is said.
use Rattle.std.specs.Prelude.{ℕ, ◌≡◌, [], ◌∷◌, ◌++◌}
use Rattle.pte.specs.declared.scheme.Scheme.TheVariants.{Sv39}
use Rattle.pte.specs.declared.address.PageSize.TheVariants.{Kib4, Mib2}
use Rattle.watch.specs.declared.trace.Verdict.{Verdict}
use Rattle.watch.specs.declared.trace.Verdict.TheVariants.{Free, Reuse, Claimed, Used}
use Rattle.watch.specs.Holding.{Translation}
use Rattle.watch.specs.WorkedTraces.{asks, flushes, given_back, global_page, leaf_cleared, mapped, page, read_only, returns_from_flush, trace_of, writable}
use Rattle.watch_engine.specs.declared.warning.Warning.{Warning}
use Rattle.watch_engine.specs.WorkedWarnings.{under_root, warning, with_asid, with_page, with_ppn}
use Rattle.watch_causes.specs.declared.reason.Reason.{Reason}
use Rattle.watch_causes.specs.declared.reason.Reason.TheVariants.{NoFlush, NoFence, OtherHarts, OtherSpaces, NotDone}
use Rattle.watch_causes.specs.declared.tally.Tally.{Tally}
use Rattle.watch_causes.specs.declared.tally.Verdicts.{Verdicts}
use Rattle.watch_causes.specs.Findings.{Judged}
use Rattle.watch_causes.specs.Judging.{verdicts_of}
use Rattle.watch_causes.specs.Tallies.{tallies_of}

-- a verdict at a record
abbrev pub at : ℕ → Warning → Reason → Judged
at number w reason = record { number = number; warning = w; reason = reason }

-- free, reuse, claim, use
abbrev pub counts : ℕ → ℕ → ℕ → ℕ → Verdicts
counts free reuse claimed used =
    record { free = free; reuse = reuse; claimed = claimed; used = used }

-- the tally of a cause whose first verdict this is: its findings, and their verdicts
abbrev pub tally : Judged → ℕ → Verdicts → Tally
tally first findings verdicts =
    record {
      cause =
          record {
            global = first.warning.entry.global;
            first = first.warning.verdict;
            reason = first.reason;
          };
      findings = findings;
      verdicts = verdicts;
      example = record { number = first.number; warning = first.warning };
    }

abbrev pub freed : Judged
freed = at 8 (warning Free 1 (page writable) 6) OtherHarts

-- one finding: the frame is given back, and the page is used twice
abbrev pub freed_and_used : Type 0
freed_and_used =
    tallies_of
    (at 10 (warning Used 1 (page writable) 6) NoFence
    ∷ at 9 (warning Used 1 (page writable) 6) NoFlush
    ∷ freed ∷ [])
    ≡ tally freed 1 (counts 1 0 0 2) ∷ []

-- the next verdict is of the same finding, or begins one of the same cause
abbrev pub one_finding : Warning → Type 0
one_finding w =
    tallies_of (at 9 w OtherHarts ∷ freed ∷ []) ≡ tally freed 1 (counts 2 0 0 0) ∷ []

abbrev pub two_findings : Warning → Type 0
two_findings w =
    tallies_of (at 9 w OtherHarts ∷ freed ∷ []) ≡ tally freed 2 (counts 2 0 0 0) ∷ []

-- of the page with fewer rights, or in another frame
abbrev pub of_other_rights : Type 0
of_other_rights = one_finding (warning Free 1 (page read_only) 6)

abbrev pub of_other_frame : Type 0
of_other_frame = one_finding (warning Free 1 (with_ppn 0x101 (page writable)) 6)

-- of another page, of a page of another size, for another hart, since another record, of another root,
-- of another ASID
abbrev pub of_other_page : Type 0
of_other_page = two_findings (warning Free 1 (with_page (record { base = 0x2000; size = Kib4 }) (page writable)) 6)

abbrev pub of_other_size : Type 0
of_other_size = two_findings (warning Free 1 (with_page (record { base = 0x1000; size = Mib2 }) (page writable)) 6)

abbrev pub of_other_hart : Type 0
of_other_hart = two_findings (warning Free 2 (page writable) 6)

abbrev pub of_other_record : Type 0
of_other_record = two_findings (warning Free 1 (page writable) 7)

abbrev pub of_other_root : Type 0
of_other_root = two_findings (warning Free 1 (under_root 0x80010 (page writable)) 6)

abbrev pub of_other_asid : Type 0
of_other_asid = two_findings (warning Free 1 (with_asid 2 (page writable)) 6)

-- of what is global, another root and ASID are none
abbrev pub global_elsewhere : Type 0
global_elsewhere =
    let first = at 8 (warning Free 1 global_page 6) OtherSpaces in
    tallies_of (at 9 (warning Free 1 (under_root 0x80010 (with_asid 2 global_page)) 6) OtherSpaces ∷ first ∷ [])
    ≡ tally first 1 (counts 2 0 0 0) ∷ []

-- a later verdict of the finding is counted to the cause of its first, whatever its kind and its reason
abbrev pub claimed_later : Type 0
claimed_later =
    tallies_of (at 9 (warning Claimed 1 (page writable) 6) NoFence ∷ freed ∷ [])
    ≡ tally freed 1 (counts 1 0 1 0) ∷ []

-- another finding has a cause of its own if it differs in the reason, in the kind of its first verdict,
-- or in being global
abbrev pub other_hart : ℕ → Verdict → Translation → Reason → Judged
other_hart number verdict x reason = at number (warning verdict 2 x 6) reason

abbrev pub two_causes : Judged → Verdicts → Type 0
two_causes next verdicts =
    tallies_of (next ∷ freed ∷ []) ≡ tally freed 1 (counts 1 0 0 0) ∷ tally next 1 verdicts ∷ []

abbrev pub of_other_reason : Type 0
of_other_reason = two_causes (other_hart 9 Free (page writable) NoFence) (counts 1 0 0 0)

abbrev pub of_other_kind : Type 0
of_other_kind = two_causes (other_hart 9 Reuse (page writable) OtherHarts) (counts 0 1 0 0)

abbrev pub of_the_kernel : Type 0
of_the_kernel = two_causes (other_hart 9 Free global_page OtherHarts) (counts 1 0 0 0)

-- the causes stay in the order in which they began
abbrev pub first_cause_again : Type 0
first_cause_again =
    let second = other_hart 9 Free (page writable) NoFence in
    tallies_of (at 10 (warning Free 3 (page writable) 6) OtherHarts ∷ second ∷ freed ∷ [])
    ≡ tally freed 2 (counts 2 0 0 0) ∷ tally second 1 (counts 1 0 0 0) ∷ []

-- a flush of the page asks for nothing and returns, and neither hart has fenced: two warnings at its
-- record. It asks hart 1, and the frame is given back meanwhile
abbrev pub both_claimed : Type 0
both_claimed =
    verdicts_of Sv39 (trace_of (mapped ++ leaf_cleared ∷ flushes ∷ returns_from_flush ∷ []))
    ((warning Claimed 0 (page writable) 6 ∷ warning Claimed 1 (page writable) 6 ∷ []) ∷ [] ∷ [] ∷ [] ∷ [] ∷ [] ∷ [] ∷ [] ∷ [])
    ≡ at 8 (warning Claimed 1 (page writable) 6) NoFence ∷ at 8 (warning Claimed 0 (page writable) 6) NoFence ∷ []

abbrev pub freed_within_flush : Type 0
freed_within_flush =
    verdicts_of Sv39 (trace_of (mapped ++ leaf_cleared ∷ flushes ∷ asks ∷ given_back 0x100 ∷ []))
    ((warning Free 1 (page writable) 6 ∷ []) ∷ [] ∷ [] ∷ [] ∷ [] ∷ [] ∷ [] ∷ [] ∷ [] ∷ [])
    ≡ at 9 (warning Free 1 (page writable) 6) NotDone ∷ []
