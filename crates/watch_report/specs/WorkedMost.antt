-- Worked reports of at most so many verdicts or causes, and reports in JSON: what was worked out by hand.
use Rattle.std.specs.Prelude.{◌≡◌, ℕ, codes, List, [], ◌++◌, Option, Some, None}
use Rattle.pte.specs.declared.scheme.Scheme.TheVariants.{Sv39}
use Rattle.watch_engine.specs.declared.warning.Warning.{Warning}
use Rattle.watch_report.specs.declared.detail.Detail.{Detail}
use Rattle.watch_report.specs.declared.detail.Detail.TheVariants.{Causes, Counts, Verdicts}
use Rattle.watch_report.specs.declared.options.Form.{Form}
use Rattle.watch_report.specs.declared.options.Form.TheVariants.{Text, Json}
use Rattle.watch_report.specs.Filters.{no_filter}
use Rattle.watch_report.specs.KnownLists.{none_known}
use Rattle.watch_report.specs.Reports.{Told, end_text, told_of, told_text}
use Rattle.watch_report.specs.WorkedReports.{block_of_cause, free_line, given, given_both, kernel_line, last_line, records, total_of_cause, use_line}

-- a report of the file `a.trace`
abbrev pub about : Detail → Form → Option ℕ → Told
about detail form most =
    told_of (record { detail = detail; filter = no_filter; form = form; most = most }) none_known
    (codes "a.trace")

-- what is told of the records, and at the end
abbrev pub Says : Told → List (List Warning) → List ℕ → List ℕ → Type 0
Says told given text last =
    (told_text told Sv39 records given ≡ text) × (end_text told None Sv39 records given ≡ last)

-- ---- at most so many verdicts

abbrev pub First : ℕ → List (List Warning) → List ℕ → List ℕ → Type 0
First most given text last = Says (about Verdicts Text (Some most)) given text last

-- all are counted
abbrev pub no_verdict : Type 0
no_verdict = First 0 given [] last_line

abbrev pub one_verdict : Type 0
one_verdict = First 1 given free_line last_line

abbrev pub two_verdicts : Type 0
two_verdicts = First 2 given (free_line ++ use_line) last_line

abbrev pub fewer_verdicts : Type 0
fewer_verdicts = First 3 given (free_line ++ use_line) last_line

abbrev pub last_line_of_both : List ℕ
last_line_of_both = codes "3 records, 2 verdicts: free 1, kernel-free 1\n"

-- the first of two at a record
abbrev pub one_of_a_record : Type 0
one_of_a_record = First 1 given_both kernel_line last_line_of_both

-- ---- at most so many causes

abbrev pub FirstCauses : ℕ → List (List Warning) → List ℕ → List ℕ → Type 0
FirstCauses most given text last = Says (about Causes Text (Some most)) given text last

abbrev pub no_cause : Type 0
no_cause = FirstCauses 0 given [] last_line

-- verdicts of a cause that is told do not count
abbrev pub one_cause : Type 0
one_cause = FirstCauses 1 given block_of_cause (total_of_cause ++ last_line)

abbrev pub kernel_block : List ℕ
kernel_block =
    kernel_line ++ codes "  cause 1: kernel pages, first free: no flush of the page has begun since\n"

abbrev pub kernel_total : List ℕ
kernel_total =
    codes "a.trace:6: cause 1: kernel pages, first free: no flush of the page has begun since; 1 finding: free 1\n"
    ++ codes "  stale by unmap: 1 finding, 1 page, hart 1; not reached 1\n"

abbrev pub user_block : List ℕ
user_block =
    free_line ++ codes "  cause 2: user pages, first free: no flush of the page has begun since\n"

abbrev pub user_total : List ℕ
user_total =
    codes "a.trace:6: cause 2: user pages, first free: no flush of the page has begun since; 1 finding: free 1\n"
    ++ codes "  stale by unmap: 1 finding, 1 page of 1 space, hart 1; not reached 1\n"

-- the one that began first, though it comes last at the end
abbrev pub one_of_two_causes : Type 0
one_of_two_causes = FirstCauses 1 given_both kernel_block (kernel_total ++ last_line_of_both)

abbrev pub two_causes : Type 0
two_causes =
    FirstCauses 2 given_both (kernel_block ++ user_block) (user_total ++ kernel_total ++ last_line_of_both)

abbrev pub fewer_causes : Type 0
fewer_causes =
    FirstCauses 3 given_both (kernel_block ++ user_block) (user_total ++ kernel_total ++ last_line_of_both)

-- ---- in JSON

abbrev pub user_object : List ℕ
user_object =
    codes "{\"type\":\"verdict\",\"file\":\"a.trace\",\"line\":6,\"verdict\":\"free\",\"kernel\":false,\"hart\":1,"
    ++ codes "\"page\":\"1000\",\"size\":\"1000\",\"frame\":\"100\",\"flags\":\"rw-u-\",\"asid\":\"1\",\"root\":\"80000\","
    ++ codes "\"stale_since\":4,\"stale_by\":\"unmap\",\"frames\":\"100\",\"count\":\"1\",\"by\":\"free_page\"}\n"

abbrev pub kernel_object : List ℕ
kernel_object =
    codes "{\"type\":\"verdict\",\"file\":\"a.trace\",\"line\":6,\"verdict\":\"free\",\"kernel\":true,\"hart\":1,"
    ++ codes "\"page\":\"1000\",\"size\":\"1000\",\"frame\":\"100\",\"flags\":\"rw-ug\",\"asid\":null,\"root\":null,"
    ++ codes "\"stale_since\":4,\"stale_by\":\"unmap\",\"frames\":\"100\",\"count\":\"1\",\"by\":\"free_page\"}\n"

abbrev pub last_object : List ℕ
last_object =
    codes "{\"type\":\"summary\",\"file\":\"a.trace\",\"records\":3,\"before_line\":null,"
    ++ codes "\"user\":{\"free\":1,\"reuse\":0,\"claim\":0,\"use\":0},\"kernel\":{\"free\":1,\"reuse\":0,\"claim\":0,\"use\":0},\"by_design\":null}\n"

abbrev pub objects_of_verdicts : Type 0
objects_of_verdicts =
    Says (about Verdicts Json None) given_both (kernel_object ++ user_object) last_object

-- the findings, in the order in which they began
abbrev pub objects_of_findings : List ℕ
objects_of_findings =
    codes "{\"type\":\"finding\",\"file\":\"a.trace\",\"line\":6,\"cause\":1,\"kernel\":true,\"hart\":1,"
    ++ codes "\"page\":\"1000\",\"size\":\"1000\",\"frame\":\"100\",\"flags\":\"rw-ug\",\"asid\":null,\"root\":null,"
    ++ codes "\"stale_since\":4,\"stale_by\":\"unmap\",\"reach\":\"not-reached\"}\n"
    ++ codes "{\"type\":\"finding\",\"file\":\"a.trace\",\"line\":6,\"cause\":2,\"kernel\":false,\"hart\":1,"
    ++ codes "\"page\":\"1000\",\"size\":\"1000\",\"frame\":\"100\",\"flags\":\"rw-u-\",\"asid\":\"1\",\"root\":\"80000\","
    ++ codes "\"stale_since\":4,\"stale_by\":\"unmap\",\"reach\":\"not-reached\"}\n"

-- each cause, and its notes behind it
abbrev pub objects_of_totals : List ℕ
objects_of_totals =
    codes "{\"type\":\"total\",\"file\":\"a.trace\",\"line\":6,\"cause\":2,\"kernel\":false,\"first\":\"free\",\"reason\":\"no-flush\",\"findings\":1,\"free\":1,\"reuse\":0,\"claim\":0,\"use\":0}\n"
    ++ codes "{\"type\":\"note\",\"file\":\"a.trace\",\"cause\":2,\"note\":\"unmap\",\"findings\":1,\"pages\":1,\"spaces\":1,\"harts\":[1],\"asked\":[],\"used\":0,\"reachable\":0,\"not_reached\":1}\n"
    ++ codes "{\"type\":\"total\",\"file\":\"a.trace\",\"line\":6,\"cause\":1,\"kernel\":true,\"first\":\"free\",\"reason\":\"no-flush\",\"findings\":1,\"free\":1,\"reuse\":0,\"claim\":0,\"use\":0}\n"
    ++ codes "{\"type\":\"note\",\"file\":\"a.trace\",\"cause\":1,\"note\":\"unmap\",\"findings\":1,\"pages\":1,\"spaces\":null,\"harts\":[1],\"asked\":[],\"used\":0,\"reachable\":0,\"not_reached\":1}\n"

abbrev pub objects_of_causes : Type 0
objects_of_causes =
    Says (about Causes Json None) given_both
    (kernel_object
    ++ codes "{\"type\":\"cause\",\"file\":\"a.trace\",\"line\":6,\"cause\":1,\"kernel\":true,\"first\":\"free\",\"reason\":\"no-flush\"}\n"
    ++ user_object
    ++ codes "{\"type\":\"cause\",\"file\":\"a.trace\",\"line\":6,\"cause\":2,\"kernel\":false,\"first\":\"free\",\"reason\":\"no-flush\"}\n")
    (objects_of_findings ++ objects_of_totals ++ last_object)

abbrev pub object_of_counts : Type 0
object_of_counts = Says (about Counts Json None) given_both [] last_object

abbrev pub first_object : Type 0
first_object = Says (about Verdicts Json (Some 1)) given_both kernel_object last_object
