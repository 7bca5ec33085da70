-- The worked faults of lines, computed.
use Rattle.std.proofs.Common.{refl}
use Rattle.std.specs.Fmt.{digits}
use Rattle.watch_report.specs.WorkedFaults as faults

pub empty_start : faults.empty_start
empty_start = refl

pub scenario : faults.scenario
scenario = refl

pub upper_case : faults.upper_case
upper_case = refl

pub other_version : faults.other_version
other_version = refl

pub no_harts : faults.no_harts
no_harts = refl

pub too_many_harts : faults.too_many_harts
too_many_harts = refl

pub harts_in_a_word : faults.harts_in_a_word
harts_in_a_word = refl

pub other_scheme : faults.other_scheme
other_scheme = refl

pub no_scheme : faults.no_scheme
no_scheme = refl

pub more_than_a_scheme : faults.more_than_a_scheme
more_than_a_scheme = refl

pub header_before_a_space : faults.header_before_a_space
header_before_a_space = refl

pub header_of_windows : faults.header_of_windows
header_of_windows = refl

pub header_after_a_mark : faults.header_after_a_mark
header_after_a_mark = refl

pub header_cut_after_a_space : faults.header_cut_after_a_space
header_cut_after_a_space = refl

pub header_after_a_time : faults.header_after_a_time
header_after_a_time = refl

pub header_after_a_long_time : faults.header_after_a_long_time
header_after_a_long_time = refl

pub table_of_a_scenario : faults.table_of_a_scenario
table_of_a_scenario = refl

pub fewest_harts : faults.fewest_harts
fewest_harts = refl

pub most_harts : faults.most_harts
most_harts = refl

pub two_spaces : faults.two_spaces
two_spaces = refl

pub space_in_front : faults.space_in_front
space_in_front = refl

pub space_at_the_end : faults.space_at_the_end
space_at_the_end = refl

pub cut_after_a_space : faults.cut_after_a_space
cut_after_a_space = refl

pub cut_after_the_letter : faults.cut_after_the_letter
cut_after_the_letter = refl

pub cut_before_a_note : faults.cut_before_a_note
cut_before_a_note = refl

pub two_spaces_and_no_more : faults.two_spaces_and_no_more
two_spaces_and_no_more = refl

pub tab_for_a_space : faults.tab_for_a_space
tab_for_a_space = refl

pub tab_after_the_letter : faults.tab_after_the_letter
tab_after_the_letter = refl

pub two_spaces_before_a_note : faults.two_spaces_before_a_note
two_spaces_before_a_note = refl

pub line_of_windows : faults.line_of_windows
line_of_windows = refl

pub unknown_letter : faults.unknown_letter
unknown_letter = refl

pub two_letters : faults.two_letters
two_letters = refl

pub mark_with_no_space : faults.mark_with_no_space
mark_with_no_space = refl

pub no_hart_field : faults.no_hart_field
no_hart_field = refl

pub no_value : faults.no_value
no_value = refl

pub no_asid : faults.no_asid
no_asid = refl

pub field_too_many : faults.field_too_many
field_too_many = refl

pub digit_g : faults.digit_g
digit_g = refl

pub dash_for_a_token : faults.dash_for_a_token
dash_for_a_token = refl

pub name_of_a_register : faults.name_of_a_register
name_of_a_register = refl

pub prefixed : faults.prefixed
prefixed = refl

pub prefixed_in_upper_case : faults.prefixed_in_upper_case
prefixed_in_upper_case = refl

pub seventeen_digits : faults.seventeen_digits
seventeen_digits = refl

pub hart_in_hexadecimal : faults.hart_in_hexadecimal
hart_in_hexadecimal = refl

pub hart_too_great : faults.hart_too_great
hart_too_great = refl

pub unaligned_word : faults.unaligned_word
unaligned_word = refl

pub wide_asid : faults.wide_asid
wide_asid = refl

pub satp_of_mode_1 : faults.satp_of_mode_1
satp_of_mode_1 = refl

pub satp_of_the_other_scheme : faults.satp_of_the_other_scheme
satp_of_the_other_scheme = refl

pub no_space_before_a_note : faults.no_space_before_a_note
no_space_before_a_note = refl

pub note_alone : faults.note_alone
note_alone = refl

pub note_after_a_space : faults.note_after_a_space
note_after_a_space = refl

pub hart_before_the_address : faults.hart_before_the_address
hart_before_the_address = refl

pub address_before_what_is_missing : faults.address_before_what_is_missing
address_before_what_is_missing = refl

pub mark_before_a_tab : faults.mark_before_a_tab
mark_before_a_tab = refl

pub tab_before_a_mark : faults.tab_before_a_mark
tab_before_a_mark = refl

pub mark_before_a_return : faults.mark_before_a_return
mark_before_a_return = refl

pub tab_before_a_return : faults.tab_before_a_return
tab_before_a_return = refl

pub return_before_a_tab : faults.return_before_a_tab
return_before_a_tab = refl

pub zero_before_a_tab : faults.zero_before_a_tab
zero_before_a_tab = refl

pub tab_before_a_zero : faults.tab_before_a_zero
tab_before_a_zero = refl

pub zero_before_a_return : faults.zero_before_a_return
zero_before_a_return = refl

pub return_before_a_zero : faults.return_before_a_zero
return_before_a_zero = refl

pub zeros_alone : faults.zeros_alone
zeros_alone = refl

pub file_of_zeros : faults.file_of_zeros
file_of_zeros = refl

pub compressed : faults.compressed
compressed = refl

pub escape_before_a_zero : faults.escape_before_a_zero
escape_before_a_zero = refl

pub zero_before_an_escape : faults.zero_before_an_escape
zero_before_an_escape = refl

pub delete : faults.delete
delete = refl

pub letter_with_an_accent : faults.letter_with_an_accent
letter_with_an_accent = refl

pub last_printable : faults.last_printable
last_printable = refl

pub line_after_a_time : faults.line_after_a_time
line_after_a_time = refl

pub line_after_a_long_time : faults.line_after_a_long_time
line_after_a_long_time = refl

pub bracket_and_letter : faults.bracket_and_letter
bracket_and_letter = refl

pub bracket_in_a_field : faults.bracket_in_a_field
bracket_in_a_field = refl

pub letters_in_upper_case : faults.letters_in_upper_case
letters_in_upper_case = refl

pub dash : faults.dash
dash = refl

pub sixteen_digits : faults.sixteen_digits
sixteen_digits = refl

pub last_hart : faults.last_hart
last_hart = refl

pub aligned_word : faults.aligned_word
aligned_word = refl

pub widest_asid : faults.widest_asid
widest_asid = refl

pub every_asid : faults.every_asid
every_asid = refl

pub satp_of_the_scheme : faults.satp_of_the_scheme
satp_of_the_scheme = refl

pub satp_of_bare : faults.satp_of_bare
satp_of_bare = refl

pub noted : faults.noted
noted = refl

pub return_in_a_note : faults.return_in_a_note
return_in_a_note = refl

pub zero_in_a_note : faults.zero_in_a_note
zero_in_a_note = refl

pub comment_line : faults.comment_line
comment_line = refl

pub mark : faults.mark
mark = refl

pub empty_line : faults.empty_line
empty_line = refl

pub text_of_harts : faults.text_of_harts
unfolding digits
text_of_harts = refl

pub text_of_what_is_missing : faults.text_of_what_is_missing
unfolding digits
text_of_what_is_missing = refl

pub text_of_a_field_too_many : faults.text_of_a_field_too_many
unfolding digits
text_of_a_field_too_many = refl

pub text_of_no_number : faults.text_of_no_number
unfolding digits
text_of_no_number = refl

pub text_of_no_hart : faults.text_of_no_hart
unfolding digits
text_of_no_hart = refl

pub text_of_an_address : faults.text_of_an_address
unfolding digits
text_of_an_address = refl

pub text_of_an_asid : faults.text_of_an_asid
unfolding digits
text_of_an_asid = refl

pub text_of_a_mode : faults.text_of_a_mode
unfolding digits
text_of_a_mode = refl

pub text_of_a_mode_in_sv48 : faults.text_of_a_mode_in_sv48
unfolding digits
text_of_a_mode_in_sv48 = refl

pub text_of_a_time : faults.text_of_a_time
unfolding digits
text_of_a_time = refl

pub text_of_a_mark : faults.text_of_a_mark
unfolding digits
text_of_a_mark = refl

pub text_of_a_zero : faults.text_of_a_zero
unfolding digits
text_of_a_zero = refl

pub text_of_a_byte : faults.text_of_a_byte
unfolding digits
text_of_a_byte = refl

pub ruleset wrong_headers = (empty_start, scenario, upper_case, other_version, no_harts, too_many_harts, harts_in_a_word, other_scheme, no_scheme, more_than_a_scheme, header_before_a_space, header_of_windows, header_after_a_mark, header_cut_after_a_space, header_after_a_time, header_after_a_long_time, table_of_a_scenario, fewest_harts, most_harts)

pub ruleset wrong_lines = (two_spaces, space_in_front, space_at_the_end, cut_after_a_space, cut_after_the_letter, cut_before_a_note, two_spaces_and_no_more, tab_for_a_space, tab_after_the_letter, two_spaces_before_a_note, line_of_windows, unknown_letter, two_letters, mark_with_no_space, no_hart_field, no_value, no_asid, field_too_many, digit_g, dash_for_a_token, name_of_a_register, prefixed, prefixed_in_upper_case, seventeen_digits, hart_in_hexadecimal, hart_too_great, unaligned_word, wide_asid, satp_of_mode_1, satp_of_the_other_scheme, no_space_before_a_note, note_alone, note_after_a_space, hart_before_the_address, address_before_what_is_missing)

pub ruleset wrong_bytes = (mark_before_a_tab, tab_before_a_mark, mark_before_a_return, tab_before_a_return, return_before_a_tab, zero_before_a_tab, tab_before_a_zero, zero_before_a_return, return_before_a_zero, zeros_alone, file_of_zeros, compressed, escape_before_a_zero, zero_before_an_escape, delete, letter_with_an_accent, last_printable, line_after_a_time, line_after_a_long_time, bracket_and_letter, bracket_in_a_field)

pub ruleset formed_lines = (letters_in_upper_case, dash, sixteen_digits, last_hart, aligned_word, widest_asid, every_asid, satp_of_the_scheme, satp_of_bare, noted, return_in_a_note, zero_in_a_note, comment_line, mark, empty_line)

pub ruleset fault_texts = (text_of_harts, text_of_what_is_missing, text_of_a_field_too_many, text_of_no_number, text_of_no_hart, text_of_an_address, text_of_an_asid, text_of_a_mode, text_of_a_mode_in_sv48, text_of_a_time, text_of_a_mark, text_of_a_zero, text_of_a_byte)
