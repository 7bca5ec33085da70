-- The worked reports of at most so many, and those in JSON, computed.
use Rattle.std.proofs.Common.{refl}
use Rattle.std.specs.Fmt.{digits}
use Rattle.watch_report.specs.NoteLines.{most_harts}
use Rattle.watch_report.specs.WorkedMost as rows
use Rattle.watch_report.proofs.WorkedJson.{computing}

pub no_verdict : rows.no_verdict
unfolding digits
no_verdict = (refl, refl)

pub one_verdict : rows.one_verdict
unfolding digits
one_verdict = (refl, refl)

pub two_verdicts : rows.two_verdicts
unfolding digits
two_verdicts = (refl, refl)

pub fewer_verdicts : rows.fewer_verdicts
unfolding digits
fewer_verdicts = (refl, refl)

pub one_of_a_record : rows.one_of_a_record
unfolding digits
one_of_a_record = (refl, refl)

pub no_cause : rows.no_cause
unfolding digits
no_cause = (refl, refl)

pub one_cause : rows.one_cause
unfolding digits most_harts
one_cause = (refl, refl)

pub one_of_two_causes : rows.one_of_two_causes
unfolding digits most_harts
one_of_two_causes = (refl, refl)

pub two_causes : rows.two_causes
unfolding digits most_harts
two_causes = (refl, refl)

pub fewer_causes : rows.fewer_causes
unfolding digits most_harts
fewer_causes = (refl, refl)

pub ruleset firsts = (no_verdict, one_verdict, two_verdicts, fewer_verdicts, one_of_a_record, no_cause, one_cause, one_of_two_causes, two_causes, fewer_causes)

pub objects_of_verdicts : rows.objects_of_verdicts
unfolding computing
objects_of_verdicts = (refl, refl)

pub objects_of_causes : rows.objects_of_causes
unfolding computing
objects_of_causes = (refl, refl)

pub object_of_counts : rows.object_of_counts
unfolding computing
object_of_counts = (refl, refl)

pub first_object : rows.first_object
unfolding computing
first_object = (refl, refl)

pub ruleset in_json = (objects_of_verdicts, objects_of_causes, object_of_counts, first_object)
