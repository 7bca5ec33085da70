-- The worked lines, computed.
use Rattle.std.proofs.Common.{refl}
use Rattle.std.specs.Fmt.{digits}
use Rattle.watch_report.specs.WorkedLines as lines

pub two_harts : lines.two_harts
two_harts = refl

pub most_harts : lines.most_harts
most_harts = refl

pub no_harts : lines.no_harts
no_harts = refl

pub too_many_harts : lines.too_many_harts
too_many_harts = refl

pub other_version : lines.other_version
other_version = refl

pub other_scheme : lines.other_scheme
other_scheme = refl

pub no_scheme : lines.no_scheme
no_scheme = refl

pub more_than_a_scheme : lines.more_than_a_scheme
more_than_a_scheme = refl

pub store : lines.store
unfolding digits
store = (refl, refl)

pub satp : lines.satp
unfolding digits
satp = (refl, refl)

pub satp_of_all_ones : lines.satp_of_all_ones
unfolding digits
satp_of_all_ones = (refl, refl)

pub satp_bare : lines.satp_bare
unfolding digits
satp_bare = (refl, refl)

pub fence_of_an_address : lines.fence_of_an_address
unfolding digits
fence_of_an_address = (refl, refl)

pub fence_of_an_asid : lines.fence_of_an_asid
unfolding digits
fence_of_an_asid = (refl, refl)

pub fence_of_all : lines.fence_of_all
unfolding digits
fence_of_all = (refl, refl)

pub remote_fence : lines.remote_fence
unfolding digits
remote_fence = (refl, refl)

pub remote_fence_of_all : lines.remote_fence_of_all
unfolding digits
remote_fence_of_all = (refl, refl)

pub remote_end : lines.remote_end
unfolding digits
remote_end = (refl, refl)

pub give_out : lines.give_out
unfolding digits
give_out = (refl, refl)

pub give_back : lines.give_back
unfolding digits
give_back = (refl, refl)

pub claim : lines.claim
unfolding digits
claim = (refl, refl)

pub claim_of_all : lines.claim_of_all
unfolding digits
claim_of_all = (refl, refl)

pub claim_to_the_end : lines.claim_to_the_end
unfolding digits
claim_to_the_end = (refl, refl)

pub claim_end : lines.claim_end
unfolding digits
claim_end = (refl, refl)

pub usage : lines.usage
unfolding digits
usage = (refl, refl)

pub upper_case : lines.upper_case
upper_case = refl

pub zeros_in_front : lines.zeros_in_front
zeros_in_front = refl

pub satp_with_the_rest_of_bare : lines.satp_with_the_rest_of_bare
satp_with_the_rest_of_bare = refl

pub remote_fence_of_zeros : lines.remote_fence_of_zeros
remote_fence_of_zeros = refl

pub remote_fence_of_all_ones : lines.remote_fence_of_all_ones
remote_fence_of_all_ones = refl

pub remote_fence_of_no_bytes : lines.remote_fence_of_no_bytes
remote_fence_of_no_bytes = refl

pub claim_of_no_bytes : lines.claim_of_no_bytes
claim_of_no_bytes = refl

pub noted : lines.noted
noted = refl

pub commented : lines.commented
commented = refl

pub mark : lines.mark
mark = refl

pub comment_line : lines.comment_line
comment_line = refl

pub empty_line : lines.empty_line
empty_line = refl

pub two_spaces : lines.two_spaces
two_spaces = refl

pub space_in_front : lines.space_in_front
space_in_front = refl

pub space_at_the_end : lines.space_at_the_end
space_at_the_end = refl

pub two_spaces_before_a_note : lines.two_spaces_before_a_note
two_spaces_before_a_note = refl

pub no_space_before_a_note : lines.no_space_before_a_note
no_space_before_a_note = refl

pub field_missing : lines.field_missing
field_missing = refl

pub field_too_many : lines.field_too_many
field_too_many = refl

pub no_fields : lines.no_fields
no_fields = refl

pub seventeen_digits : lines.seventeen_digits
seventeen_digits = refl

pub digit_g : lines.digit_g
digit_g = refl

pub prefixed : lines.prefixed
prefixed = refl

pub signed : lines.signed
signed = refl

pub hart_too_great : lines.hart_too_great
hart_too_great = refl

pub hart_in_hexadecimal : lines.hart_in_hexadecimal
hart_in_hexadecimal = refl

pub unaligned_word : lines.unaligned_word
unaligned_word = refl

pub satp_of_mode_1 : lines.satp_of_mode_1
satp_of_mode_1 = refl

pub satp_of_the_other_scheme : lines.satp_of_the_other_scheme
satp_of_the_other_scheme = refl

pub wide_asid : lines.wide_asid
wide_asid = refl

pub dash_for_a_token : lines.dash_for_a_token
dash_for_a_token = refl

pub unknown_letter : lines.unknown_letter
unknown_letter = refl

pub two_letters : lines.two_letters
two_letters = refl

pub mark_with_no_space : lines.mark_with_no_space
mark_with_no_space = refl

pub note_alone : lines.note_alone
note_alone = refl

pub ruleset header_lines = (two_harts, most_harts, no_harts, too_many_harts, other_version, other_scheme, no_scheme, more_than_a_scheme)

pub ruleset record_lines = (store, satp, satp_of_all_ones, satp_bare, fence_of_an_address, fence_of_an_asid, fence_of_all, remote_fence, remote_fence_of_all, remote_end, give_out, give_back, claim, claim_of_all, claim_to_the_end, claim_end, usage)

pub ruleset other_lines = (upper_case, zeros_in_front, satp_with_the_rest_of_bare, remote_fence_of_zeros, remote_fence_of_all_ones, remote_fence_of_no_bytes, claim_of_no_bytes, noted, commented, mark, comment_line, empty_line)

pub ruleset refused_lines = (two_spaces, space_in_front, space_at_the_end, two_spaces_before_a_note, no_space_before_a_note, field_missing, field_too_many, no_fields, seventeen_digits, digit_g, prefixed, signed, hart_too_great, hart_in_hexadecimal, unaligned_word, satp_of_mode_1, satp_of_the_other_scheme, wide_asid, dash_for_a_token, unknown_letter, two_letters, mark_with_no_space, note_alone)
