-- The worked reports with a list of what is known, computed.
use Rattle.std.proofs.Common.{refl}
use Rattle.std.specs.Fmt.{digits}
use Rattle.watch_report.specs.NoteLines.{most_harts}
use Rattle.watch_report.specs.WorkedKnownReports as rows
use Rattle.watch_report.proofs.WorkedJson.{computing}

pub other_verdict : rows.other_verdict
unfolding digits
other_verdict = (refl, refl)

pub other_cause : rows.other_cause
unfolding digits most_harts
other_cause = (refl, refl)

pub other_count : rows.other_count
unfolding digits
other_count = (refl, refl)

pub other_is_told : rows.other_is_told
unfolding digits
other_is_told = refl

pub all_verdicts : rows.all_verdicts
unfolding digits
all_verdicts = (refl, refl)

pub all_causes : rows.all_causes
unfolding digits most_harts
all_causes = (refl, refl)

pub later_verdict : rows.later_verdict
unfolding digits
later_verdict = (refl, refl)

pub other_note : rows.other_note
unfolding digits
other_note = (refl, refl)

pub use_is_told : rows.use_is_told
unfolding digits
use_is_told = (refl, refl)

pub cause_of_use : rows.cause_of_use
unfolding digits most_harts
cause_of_use = (refl, refl)

pub count_of_use : rows.count_of_use
unfolding digits
count_of_use = (refl, refl)

pub some_is_told : rows.some_is_told
unfolding digits
some_is_told = refl

pub first_entry : rows.first_entry
unfolding digits
first_entry = (refl, refl)

pub both_entries : rows.both_entries
unfolding digits
both_entries = (refl, refl)

pub no_cause : rows.no_cause
unfolding digits
no_cause = (refl, refl)

pub none_is_told : rows.none_is_told
unfolding digits
none_is_told = refl

pub all_tests : rows.all_tests
unfolding digits
all_tests = (refl, refl)

pub other_page : rows.other_page
unfolding digits
other_page = (refl, refl)

pub other_reason : rows.other_reason
unfolding digits
other_reason = (refl, refl)

pub object_of_design : rows.object_of_design
unfolding computing
object_of_design = refl

pub object_of_entry : rows.object_of_entry
unfolding computing
object_of_entry = refl

pub first_unknown : rows.first_unknown
unfolding digits
first_unknown = refl

pub ruleset reports = (other_verdict, other_cause, other_count, other_is_told, all_verdicts, all_causes, later_verdict, other_note, use_is_told, cause_of_use, count_of_use, some_is_told, first_entry, both_entries, no_cause, none_is_told, all_tests, other_page, other_reason, object_of_design, object_of_entry, first_unknown)
