-- The worked findings that are known, computed.
use Rattle.std.proofs.Common.{refl}
use Rattle.watch_causes.specs.WorkedKnown as worked

pub user_passes : worked.user_passes
user_passes = refl

pub user_fails : worked.user_fails
user_fails = refl

pub kernel_passes : worked.kernel_passes
kernel_passes = refl

pub kernel_fails : worked.kernel_fails
kernel_fails = refl

pub first_passes : worked.first_passes
first_passes = refl

pub first_fails : worked.first_fails
first_fails = refl

pub reason_passes : worked.reason_passes
reason_passes = refl

pub reason_fails : worked.reason_fails
reason_fails = refl

pub reach_passes : worked.reach_passes
reach_passes = refl

pub reach_fails : worked.reach_fails
reach_fails = refl

pub other_reach_fails : worked.other_reach_fails
other_reach_fails = refl

pub unknown_reach_fails : worked.unknown_reach_fails
unknown_reach_fails = refl

pub no_reach_passes : worked.no_reach_passes
no_reach_passes = refl

pub range_before_passes : worked.range_before_passes
range_before_passes = refl

pub range_before_fails : worked.range_before_fails
range_before_fails = refl

pub range_behind_passes : worked.range_behind_passes
range_behind_passes = refl

pub range_behind_fails : worked.range_behind_fails
range_behind_fails = refl

pub no_byte_fails : worked.no_byte_fails
no_byte_fails = refl

pub whole_note_passes : worked.whole_note_passes
whole_note_passes = refl

pub note_passes : worked.note_passes
note_passes = refl

pub longer_note_fails : worked.longer_note_fails
longer_note_fails = refl

pub later_note_fails : worked.later_note_fails
later_note_fails = refl

pub other_note_fails : worked.other_note_fails
other_note_fails = refl

pub no_note_passes : worked.no_note_passes
no_note_passes = refl

pub no_note_fails : worked.no_note_fails
no_note_fails = refl

pub all_pass : worked.all_pass
all_pass = refl

pub all_but_one_fail : worked.all_but_one_fail
all_but_one_fail = refl

pub begins_known : worked.begins_known
begins_known = refl

pub begins_unknown : worked.begins_unknown
begins_unknown = refl

pub stays_known : worked.stays_known
stays_known = refl

pub stays_unknown : worked.stays_unknown
stays_unknown = refl

pub other_hart_is_not : worked.other_hart_is_not
other_hart_is_not = refl

pub other_record_is_not : worked.other_record_is_not
other_record_is_not = refl

pub second_entry : worked.second_entry
second_entry = refl

pub counts_nothing : worked.counts_nothing
counts_nothing = refl

pub counts_one : worked.counts_one
counts_one = refl

pub counts_first_match : worked.counts_first_match
counts_first_match = refl

pub counts_each : worked.counts_each
counts_each = refl

pub counts_first_verdict : worked.counts_first_verdict
counts_first_verdict = refl

pub ruleset worked_entries = (user_passes, user_fails, kernel_passes, kernel_fails, first_passes, first_fails, reason_passes, reason_fails, reach_passes, reach_fails, other_reach_fails, unknown_reach_fails, no_reach_passes, range_before_passes, range_before_fails, range_behind_passes, range_behind_fails, no_byte_fails, whole_note_passes, note_passes, longer_note_fails, later_note_fails, other_note_fails, no_note_passes, no_note_fails, all_pass, all_but_one_fail)

pub ruleset worked_first_verdicts = (begins_known, begins_unknown, stays_known, stays_unknown, other_hart_is_not, other_record_is_not, second_entry)

pub ruleset worked_counts = (counts_nothing, counts_one, counts_first_match, counts_each, counts_first_verdict)
