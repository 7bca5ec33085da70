-- The worked objects of JSON, computed.
use Rattle.std.proofs.Common.{refl}
use Rattle.std.specs.Fmt.{digits}
use Rattle.std.specs.Char.{encode_utf8}
use Rattle.std.specs.Str.{chars, is_utf8}
use Rattle.std.specs.Str.Lossy.{utf8_error_len, utf8_lossy, utf8_valid_len}
use Rattle.json.specs.Print.{escape_byte, print_from}
use Rattle.watch_report.specs.JsonObjects.{cause_fields, counts_fields, entry_fields, field, since_fields, verdict_fields}
use Rattle.watch_report.specs.NoteLines.{most_harts}
use Rattle.watch_report.specs.NoteObjects.{found_fields, group_fields, note_fields, numbers_field, reach_fields, stale_fields}
use Rattle.watch_report.specs.WorkedJson as rows

-- what a row computes with
unfoldable pub computing : Unit {0}
unfolding digits most_harts numbers_field found_fields stale_fields note_fields group_fields reach_fields encode_utf8 chars is_utf8 utf8_error_len utf8_lossy utf8_valid_len escape_byte print_from field verdict_fields entry_fields since_fields cause_fields counts_fields
computing = tt

pub claim : rows.claim
unfolding computing
claim = refl

pub free_of_kernel : rows.free_of_kernel
unfolding computing
free_of_kernel = refl

pub reuse : rows.reuse
unfolding computing
reuse = refl

pub used : rows.used
unfolding computing
used = refl

pub ruleset verdicts = (claim, free_of_kernel, reuse, used)

pub cause_begins : rows.cause_begins
unfolding computing
cause_begins = refl

pub other_cause_begins : rows.other_cause_begins
unfolding computing
other_cause_begins = refl

pub total : rows.total
unfolding computing
total = refl

pub other_total : rows.other_total
unfolding computing
other_total = refl

pub ruleset causes = (cause_begins, other_cause_begins, total, other_total)

pub known : rows.known
unfolding computing
known = refl

pub summary : rows.summary
unfolding computing
summary = refl

pub summary_before_a_wrong_line : rows.summary_before_a_wrong_line
unfolding computing
summary_before_a_wrong_line = refl

pub ruleset endings = (known, summary, summary_before_a_wrong_line)
