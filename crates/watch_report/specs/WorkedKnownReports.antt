-- Worked reports with a list of what is known: what was worked out by hand.
use Rattle.std.specs.Prelude.{◌≡◌, ◌++◌, ◌∷◌, ℕ, Bool, true, false, codes, List, [], Some, None}
use Rattle.pte.specs.declared.scheme.Scheme.TheVariants.{Sv39}
use Rattle.watch.specs.declared.trace.Verdict.{Verdict}
use Rattle.watch.specs.declared.trace.Verdict.TheVariants.{Free, Used}
use Rattle.watch_causes.specs.KnownFindings.{KnownEntry}
use Rattle.watch_causes.specs.declared.reason.Reason.TheVariants.{NoFlush, NotDone}
use Rattle.watch_engine.specs.declared.warning.Warning.{Warning}
use Rattle.watch_report.specs.declared.detail.Detail.{Detail}
use Rattle.watch_report.specs.declared.detail.Detail.TheVariants.{Causes, Counts, Verdicts}
use Rattle.watch_report.specs.Filters.{no_filter}
use Rattle.watch_report.specs.declared.options.Form.TheVariants.{Json, Text}
use Rattle.watch_report.specs.KnownLists.{known_text, list_of}
use Rattle.watch_report.specs.KnownVerdicts.{has_verdict}
use Rattle.watch_report.specs.Records.{range_at}
use Rattle.watch_report.specs.Reports.{Told, end_text, options_of, told_of, told_of_taken, told_text}
use Rattle.watch_report.specs.WorkedReports.{block_of_cause, free_line, given, given_both, records, total_of_cause, use_line}

-- of the file `a.trace`, with the list in `b.list`
abbrev pub about : Detail → List KnownEntry → Told
about detail known = told_of (options_of detail no_filter) (list_of (codes "b.list") known) (codes "a.trace")

-- this is told of the records, where the filter takes these verdicts, and at the end
abbrev pub Says : Detail → List KnownEntry → List (List Warning) → List ℕ → List ℕ → Type 0
Says detail known taken text last =
    (told_text (about detail known) Sv39 records (told_of_taken (about detail known) Sv39 records taken) ≡ text)
    × (end_text (about detail known) None Sv39 records taken ≡ last)

-- whether a verdict is told
abbrev pub Tells : List KnownEntry → List (List Warning) → Bool → Type 0
Tells known taken some = has_verdict (told_of_taken (about Verdicts known) Sv39 records taken) ≡ some

-- an entry on line 2 with no test but the owner's
abbrev pub any_of : Bool → KnownEntry
any_of global =
    record {
      line = 2;
      global = global;
      first = None;
      reason = None;
      reach = None;
      among = λ f. true;
      range = None;
      note = [];
    }

abbrev pub begun_by : Verdict → KnownEntry
begun_by first = record (any_of false) { first = Some first }

-- on line 5
abbrev pub later : KnownEntry → KnownEntry
later entry = record entry { line = 5 }

-- ---- one of two findings is known: that of the kernel's page

abbrev pub of_kernel : List KnownEntry
of_kernel = any_of true ∷ []

abbrev pub other_verdict : Type 0
other_verdict =
    Says Verdicts of_kernel given_both free_line
    (codes "b.list:2: by design: 1 finding\n3 records, 1 verdict: free 1; 1 finding by design\n")

-- the known one does not count among the causes either
abbrev pub other_cause : Type 0
other_cause =
    Says Causes of_kernel given_both
    (free_line ++ codes "  cause 1: user pages, first free: no flush of the page has begun since\n")
    (codes "a.trace:6: cause 1: user pages, first free: no flush of the page has begun since; 1 finding: free 1\n"
    ++ codes "  stale by unmap: 1 finding, 1 page of 1 space, hart 1; not reached 1\n"
    ++ codes "b.list:2: by design: 1 finding\n3 records, 1 verdict: free 1; 1 finding by design\n")

abbrev pub other_count : Type 0
other_count =
    Says Counts of_kernel given_both [] (codes "3 records, 1 verdict: free 1; 1 finding by design\n")

abbrev pub other_is_told : Type 0
other_is_told = Tells of_kernel given_both true

-- ---- none is known

abbrev pub all_verdicts : Type 0
all_verdicts =
    Says Verdicts of_kernel given (free_line ++ use_line)
    (codes "b.list:2: by design: no finding\n3 records, 2 verdicts: free 1, use 1; no finding by design\n")

abbrev pub all_causes : Type 0
all_causes =
    Says Causes of_kernel given block_of_cause
    (total_of_cause
    ++ codes "b.list:2: by design: no finding\n3 records, 2 verdicts: free 1, use 1; no finding by design\n")

-- the finding begins with `free`: its later `use` is not known either
abbrev pub later_verdict : Type 0
later_verdict =
    Says Verdicts (begun_by Used ∷ []) given (free_line ++ use_line)
    (codes "b.list:2: by design: no finding\n3 records, 2 verdicts: free 1, use 1; no finding by design\n")

abbrev pub other_note : Type 0
other_note =
    Says Counts (record (any_of false) { note = codes "unmapped" } ∷ []) given []
    (codes "3 records, 2 verdicts: free 1, use 1; no finding by design\n")

-- ---- the finding of both verdicts is known: the `use` is told all the same

abbrev pub use_is_told : Type 0
use_is_told =
    Says Verdicts (begun_by Free ∷ []) given use_line
    (codes "b.list:2: by design: 1 finding\n3 records, 1 verdict: use 1; 1 finding by design\n")

-- it begins its cause
abbrev pub cause_of_use : Type 0
cause_of_use =
    Says Causes (begun_by Free ∷ []) given
    (use_line ++ codes "  cause 1: user pages, first use: no flush of the page has begun since\n")
    (codes "a.trace:7: cause 1: user pages, first use: no flush of the page has begun since; 1 finding: use 1\n"
    ++ codes "  stale by unmap: 1 finding, 1 page of 1 space, hart 1; used 1\n"
    ++ codes "b.list:2: by design: 1 finding\n3 records, 1 verdict: use 1; 1 finding by design\n")

abbrev pub count_of_use : Type 0
count_of_use =
    Says Counts (begun_by Free ∷ []) given []
    (codes "3 records, 1 verdict: use 1; 1 finding by design\n")

abbrev pub some_is_told : Type 0
some_is_told = Tells (begun_by Free ∷ []) given true

-- the first of two entries counts it
abbrev pub first_entry : Type 0
first_entry =
    Says Verdicts (begun_by Free ∷ later (any_of false) ∷ []) given use_line
    (codes "b.list:2: by design: 1 finding\nb.list:5: by design: no finding\n"
    ++ codes "3 records, 1 verdict: use 1; 1 finding by design\n")

-- both entries count one
abbrev pub both_entries : Type 0
both_entries =
    Says Verdicts (begun_by Free ∷ later (any_of true) ∷ []) given_both []
    (codes "b.list:2: by design: 1 finding\nb.list:5: by design: 1 finding\n"
    ++ codes "3 records, no verdict; 2 findings by design\n")

abbrev pub no_cause : Type 0
no_cause =
    Says Causes (begun_by Free ∷ later (any_of true) ∷ []) given_both []
    (codes "b.list:2: by design: 1 finding\nb.list:5: by design: 1 finding\n"
    ++ codes "3 records, no verdict; 2 findings by design\n")

abbrev pub none_is_told : Type 0
none_is_told = Tells (begun_by Free ∷ later (any_of true) ∷ []) given_both false

-- each test is passed: the note begins so, the reason, and an address in the page
abbrev pub all_tests : Type 0
all_tests =
    Says Counts
    (record (begun_by Free) { note = codes "unm"; reason = Some NoFlush; range = Some (range_at 0x1FFF 1) } ∷ []) given []
    (codes "3 records, 1 verdict: use 1; 1 finding by design\n")

abbrev pub other_page : Type 0
other_page =
    Says Counts
    (record (begun_by Free) { note = codes "unm"; reason = Some NoFlush; range = Some (range_at 0x2000 1) } ∷ []) given []
    (codes "3 records, 2 verdicts: free 1, use 1; no finding by design\n")

abbrev pub other_reason : Type 0
other_reason =
    Says Counts
    (record (begun_by Free) { note = codes "unm"; reason = Some NotDone; range = Some (range_at 0x1FFF 1) } ∷ []) given []
    (codes "3 records, 2 verdicts: free 1, use 1; no finding by design\n")

-- ---- in other forms

abbrev pub as_objects : Told
as_objects =
    told_of (record { detail = Counts; filter = no_filter; form = Json; most = None })
    (list_of (codes "b.list") of_kernel) (codes "a.trace")

abbrev pub object_of_design : Type 0
object_of_design =
    end_text as_objects None Sv39 records given_both
    ≡ codes "{\"type\":\"summary\",\"file\":\"a.trace\",\"records\":3,\"before_line\":null,"
    ++ codes "\"user\":{\"free\":1,\"reuse\":0,\"claim\":0,\"use\":0},\"kernel\":{\"free\":0,\"reuse\":0,\"claim\":0,\"use\":0},\"by_design\":1}\n"

abbrev pub object_of_entry : Type 0
object_of_entry =
    known_text Json Verdicts (list_of (codes "b.list") of_kernel) (368 ∷ [])
    ≡ codes "{\"type\":\"known\",\"file\":\"b.list\",\"line\":2,\"findings\":368}\n"

-- what is known is none of the first that are told
abbrev pub at_most_one : Told
at_most_one =
    told_of (record { detail = Verdicts; filter = no_filter; form = Text; most = Some 1 })
    (list_of (codes "b.list") of_kernel) (codes "a.trace")

abbrev pub first_unknown : Type 0
first_unknown =
    told_text at_most_one Sv39 records (told_of_taken at_most_one Sv39 records given_both) ≡ free_line
