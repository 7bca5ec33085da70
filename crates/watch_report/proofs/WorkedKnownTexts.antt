-- The worked lists of what is known, computed.
use Rattle.std.proofs.Common.{refl}
use Rattle.std.specs.Fmt.{digits}
use Rattle.watch_report.specs.WorkedKnownTexts as rows

pub no_line : rows.no_line
no_line = refl

pub silent_lines : rows.silent_lines
silent_lines = refl

pub any_of_users : rows.any_of_users
any_of_users = refl

pub without_a_feed : rows.without_a_feed
without_a_feed = refl

pub later_lines : rows.later_lines
later_lines = refl

pub first_free : rows.first_free
first_free = refl

pub first_reuse : rows.first_reuse
first_reuse = refl

pub first_claim : rows.first_claim
first_claim = refl

pub first_use : rows.first_use
first_use = refl

pub no_flush : rows.no_flush
no_flush = refl

pub no_fence : rows.no_fence
no_fence = refl

pub other_hart : rows.other_hart
other_hart = refl

pub other_asid : rows.other_asid
other_asid = refl

pub other_page : rows.other_page
other_page = refl

pub not_done : rows.not_done
not_done = refl

pub of_addresses : rows.of_addresses
of_addresses = refl

pub with_a_note : rows.with_a_note
with_a_note = refl

pub note_after_a_hash : rows.note_after_a_hash
note_after_a_hash = refl

pub note_in_a_note : rows.note_in_a_note
note_in_a_note = refl

pub empty_note : rows.empty_note
empty_note = refl

pub note_of_any_bytes : rows.note_of_any_bytes
note_of_any_bytes = refl

pub used_alone : rows.used_alone
used_alone = refl

pub reachable_alone : rows.reachable_alone
reachable_alone = refl

pub reach_before_addresses : rows.reach_before_addresses
reach_before_addresses = refl

pub with_all : rows.with_all
with_all = refl

pub ruleset entries = (no_line, silent_lines, any_of_users, without_a_feed, later_lines, first_free, first_reuse, first_claim, first_use, no_flush, no_fence, other_hart, other_asid, other_page, not_done, of_addresses, with_a_note, note_after_a_hash, note_in_a_note, empty_note, note_of_any_bytes, used_alone, reachable_alone, reach_before_addresses, with_all)

pub other_owner : rows.other_owner
other_owner = refl

pub owner_alone : rows.owner_alone
owner_alone = refl

pub other_verdict : rows.other_verdict
other_verdict = refl

pub verdict_with_its_owner : rows.verdict_with_its_owner
verdict_with_its_owner = refl

pub verdict_alone : rows.verdict_alone
verdict_alone = refl

pub other_reason : rows.other_reason
other_reason = refl

pub other_reach : rows.other_reach
other_reach = refl

pub two_reaches : rows.two_reaches
two_reaches = refl

pub reach_behind_addresses : rows.reach_behind_addresses
reach_behind_addresses = refl

pub prefixed_address : rows.prefixed_address
prefixed_address = refl

pub long_address : rows.long_address
long_address = refl

pub start_alone : rows.start_alone
start_alone = refl

pub start_before_a_note : rows.start_before_a_note
start_before_a_note = refl

pub other_size : rows.other_size
other_size = refl

pub word_too_many : rows.word_too_many
word_too_many = refl

pub line_of_windows : rows.line_of_windows
line_of_windows = refl

pub note_of_windows : rows.note_of_windows
note_of_windows = refl

pub empty_line_of_windows : rows.empty_line_of_windows
empty_line_of_windows = refl

pub return_in_a_line : rows.return_in_a_line
return_in_a_line = refl

pub tab_for_a_space : rows.tab_for_a_space
tab_for_a_space = refl

pub byte_behind_ascii : rows.byte_behind_ascii
byte_behind_ascii = refl

pub no_space_before_a_note : rows.no_space_before_a_note
no_space_before_a_note = refl

pub two_spaces : rows.two_spaces
two_spaces = refl

pub space_at_the_end : rows.space_at_the_end
space_at_the_end = refl

pub space_in_front : rows.space_in_front
space_in_front = refl

pub two_spaces_before_a_note : rows.two_spaces_before_a_note
two_spaces_before_a_note = refl

pub first_of_two : rows.first_of_two
first_of_two = refl

pub ruleset faults = (other_owner, owner_alone, other_verdict, verdict_with_its_owner, verdict_alone, other_reason, other_reach, two_reaches, reach_behind_addresses, prefixed_address, long_address, start_alone, start_before_a_note, other_size, word_too_many, line_of_windows, note_of_windows, empty_line_of_windows, return_in_a_line, tab_for_a_space, byte_behind_ascii, no_space_before_a_note, two_spaces, space_at_the_end, space_in_front, two_spaces_before_a_note, first_of_two)

pub told_return : rows.told_return
unfolding digits
told_return = refl

pub told_byte : rows.told_byte
unfolding digits
told_byte = refl

pub told_note : rows.told_note
unfolding digits
told_note = refl

pub told_space : rows.told_space
unfolding digits
told_space = refl

pub told_owner : rows.told_owner
unfolding digits
told_owner = refl

pub told_verdict : rows.told_verdict
unfolding digits
told_verdict = refl

pub told_reason : rows.told_reason
unfolding digits
told_reason = refl

pub told_address : rows.told_address
unfolding digits
told_address = refl

pub told_size : rows.told_size
unfolding digits
told_size = refl

pub told_excess : rows.told_excess
unfolding digits
told_excess = refl

pub ruleset texts = (told_return, told_byte, told_note, told_space, told_owner, told_verdict, told_reason, told_address, told_size, told_excess)
