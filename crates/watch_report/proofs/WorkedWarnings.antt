-- The worked lines of verdicts and of counts, computed.
use Rattle.std.proofs.Common.{refl}
use Rattle.std.specs.Fmt.{digits}
use Rattle.watch_report.specs.WorkedWarnings as lines

pub given_back : lines.given_back
unfolding digits
given_back = refl

pub given_out : lines.given_out
unfolding digits
given_out = refl

pub other_bytes : lines.other_bytes
unfolding digits
other_bytes = refl

pub below_a_global_pointer : lines.below_a_global_pointer
unfolding digits
below_a_global_pointer = refl

pub claimed : lines.claimed
unfolding digits
claimed = refl

pub used : lines.used
unfolding digits
used = refl

pub no_verdict : lines.no_verdict
unfolding digits
no_verdict = refl

pub one_record : lines.one_record
unfolding digits
one_record = refl

pub one_verdict : lines.one_verdict
unfolding digits
one_verdict = refl

pub some_verdicts : lines.some_verdicts
unfolding digits
some_verdicts = refl

pub verdicts_of_both : lines.verdicts_of_both
unfolding digits
verdicts_of_both = refl

pub all_verdicts : lines.all_verdicts
unfolding digits
all_verdicts = refl

pub before_a_wrong_line : lines.before_a_wrong_line
unfolding digits
before_a_wrong_line = refl

pub one_before_a_wrong_line : lines.one_before_a_wrong_line
unfolding digits
one_before_a_wrong_line = refl

pub ruleset warning_lines = (given_back, given_out, other_bytes, below_a_global_pointer, claimed, used)

pub none_by_design : lines.none_by_design
unfolding digits
none_by_design = refl

pub one_by_design : lines.one_by_design
unfolding digits
one_by_design = refl

pub many_by_design : lines.many_by_design
unfolding digits
many_by_design = refl

pub ruleset summary_lines = (no_verdict, one_record, one_verdict, some_verdicts, verdicts_of_both, all_verdicts, before_a_wrong_line, one_before_a_wrong_line, none_by_design, one_by_design, many_by_design)
