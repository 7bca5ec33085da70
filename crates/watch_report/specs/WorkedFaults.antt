-- Worked faults of lines: what was worked out by hand from the table of the format.
use Rattle.std.specs.Prelude.{◌≡◌, ℕ, codes, List, [], ◌∷◌, ◌++◌, Some, None}
use Rattle.pte.specs.declared.scheme.Scheme.TheVariants.{Sv39, Sv48}
use Rattle.watch_report.specs.declared.line_fault.LineFault.{LineFault}
use Rattle.watch_report.specs.declared.line_fault.LineReason.{LineReason}
use Rattle.watch_report.specs.declared.line_fault.LineReason.TheVariants.{EmptyStart, NoTrace, LogTime, OtherVersion, OtherHarts, OtherScheme, ByteOrderMark, ZeroByte, CarriageReturn, Tab, OtherByte, Space, OtherLetter, Missing, Excess, NotDecimal, NotHexadecimal, NotOptional, Prefixed, TooLong, NoHart, Unaligned, WideAsid, OtherMode, NoSpace}
use Rattle.watch_report.specs.declared.line_form.Field.TheVariants as fields
use Rattle.watch_report.specs.declared.line_form.LineForm.TheVariants as forms
use Rattle.watch_report.specs.LineFaults.{fault_at, fault_of, header_fault}
use Rattle.watch_report.specs.ReasonTexts.{line_fault_text}
use Rattle.watch_report.specs.WorkedLines.{machine}

abbrev pub carriage_return : List ℕ
carriage_return = 13 ∷ []

abbrev pub byte_order_mark : List ℕ
byte_order_mark = 0xEF ∷ 0xBB ∷ 0xBF ∷ []

-- a first line is wrong at this column, or it is a header
abbrev pub BeginsWrong : List ℕ → ℕ → LineReason → Type 0
BeginsWrong text column reason = header_fault text ≡ Some (fault_at column reason)

abbrev pub IsHeader : List ℕ → Type 0
IsHeader text = header_fault text ≡ None

-- the same of another line in a trace of 12 harts and Sv39
abbrev pub IsWrong : List ℕ → ℕ → LineReason → Type 0
IsWrong text column reason = fault_of (machine 12 Sv39) text ≡ Some (fault_at column reason)

abbrev pub HasForm : List ℕ → Type 0
HasForm text = fault_of (machine 12 Sv39) text ≡ None

-- what is printed of a fault
abbrev pub IsTold : LineFault → List ℕ → Type 0
IsTold fault text = line_fault_text fault ≡ text

-- ---- first lines

abbrev pub empty_start : Type 0
empty_start = BeginsWrong [] 1 EmptyStart

abbrev pub scenario : Type 0
scenario = BeginsWrong (codes "harts = 2") 1 NoTrace

abbrev pub upper_case : Type 0
upper_case = BeginsWrong (codes "Watch 1 2 sv39") 1 NoTrace

abbrev pub other_version : Type 0
other_version = BeginsWrong (codes "watch 2 2 sv39") 7 OtherVersion

abbrev pub no_harts : Type 0
no_harts = BeginsWrong (codes "watch 1 0 sv39") 9 (OtherHarts 0)

abbrev pub too_many_harts : Type 0
too_many_harts = BeginsWrong (codes "watch 1 65 sv39") 9 (OtherHarts 65)

abbrev pub harts_in_a_word : Type 0
harts_in_a_word = BeginsWrong (codes "watch 1 two sv39") 9 (NotDecimal fields.Harts)

abbrev pub other_scheme : Type 0
other_scheme = BeginsWrong (codes "watch 1 2 sv57") 11 OtherScheme

abbrev pub no_scheme : Type 0
no_scheme = BeginsWrong (codes "watch 1 2") 10 (Missing forms.Header fields.Scheme)

abbrev pub more_than_a_scheme : Type 0
more_than_a_scheme = BeginsWrong (codes "watch 1 2 sv39 x") 16 (Excess forms.Header)

abbrev pub header_before_a_space : Type 0
header_before_a_space = BeginsWrong (codes "watch 1 2 sv39 ") 15 Space

abbrev pub header_of_windows : Type 0
header_of_windows = BeginsWrong (codes "watch 1 2 sv39" ++ carriage_return) 15 CarriageReturn

abbrev pub header_after_a_mark : Type 0
header_after_a_mark =
    BeginsWrong (byte_order_mark ++ codes "watch 1 2 sv39") 1 ByteOrderMark

abbrev pub header_cut_after_a_space : Type 0
header_cut_after_a_space = BeginsWrong (codes "watch 1 2 ") 11 (Missing forms.Header fields.Scheme)

abbrev pub header_after_a_time : Type 0
header_after_a_time = BeginsWrong (codes "[    0.000000] watch 1 2 sv39") 1 LogTime

abbrev pub header_after_a_long_time : Type 0
header_after_a_long_time = BeginsWrong (codes "[12345.678901] watch 1 2 sv39") 1 LogTime

abbrev pub table_of_a_scenario : Type 0
table_of_a_scenario = BeginsWrong (codes "[setup]") 1 NoTrace

abbrev pub fewest_harts : Type 0
fewest_harts = IsHeader (codes "watch 1 1 sv39")

abbrev pub most_harts : Type 0
most_harts = IsHeader (codes "watch 1 64 sv48")

-- ---- other lines

abbrev pub two_spaces : Type 0
two_spaces = IsWrong (codes "u 0  1000") 4 Space

abbrev pub space_in_front : Type 0
space_in_front = IsWrong (codes " u 0 1000") 1 Space

abbrev pub space_at_the_end : Type 0
space_at_the_end = IsWrong (codes "u 0 1000 ") 9 Space

abbrev pub cut_after_a_space : Type 0
cut_after_a_space = IsWrong (codes "w 0 80000000 ") 14 (Missing forms.Store fields.Value)

abbrev pub cut_after_the_letter : Type 0
cut_after_the_letter = IsWrong (codes "w ") 3 (Missing forms.Store fields.Hart)

abbrev pub cut_before_a_note : Type 0
cut_before_a_note = IsWrong (codes "u 0  @note") 5 (Missing forms.Use fields.VirtualAddress)

abbrev pub two_spaces_and_no_more : Type 0
two_spaces_and_no_more = IsWrong (codes "u 0  ") 4 Space

abbrev pub tab_for_a_space : Type 0
tab_for_a_space = IsWrong (codes "u 0" ++ 9 ∷ codes "1000") 4 Tab

abbrev pub tab_after_the_letter : Type 0
tab_after_the_letter = IsWrong (117 ∷ 9 ∷ codes "0 1000") 2 Tab

abbrev pub two_spaces_before_a_note : Type 0
two_spaces_before_a_note = IsWrong (codes "u 0 1000  @note") 9 Space

abbrev pub line_of_windows : Type 0
line_of_windows = IsWrong (codes "u 0 1000" ++ carriage_return) 9 CarriageReturn

abbrev pub unknown_letter : Type 0
unknown_letter = IsWrong (codes "x 0 1000") 1 OtherLetter

abbrev pub two_letters : Type 0
two_letters = IsWrong (codes "uu 0 1000") 1 OtherLetter

abbrev pub mark_with_no_space : Type 0
mark_with_no_space = IsWrong (codes "m") 1 OtherLetter

abbrev pub no_hart_field : Type 0
no_hart_field = IsWrong (codes "w") 2 (Missing forms.Store fields.Hart)

abbrev pub no_value : Type 0
no_value = IsWrong (codes "w 0 80000000") 13 (Missing forms.Store fields.Value)

abbrev pub no_asid : Type 0
no_asid = IsWrong (codes "r 0 2 3 1000 1000") 18 (Missing forms.RemoteBegin fields.Asid)

abbrev pub field_too_many : Type 0
field_too_many = IsWrong (codes "u 0 1000 1") 10 (Excess forms.Use)

abbrev pub digit_g : Type 0
digit_g = IsWrong (codes "u 0 10g0") 5 (NotHexadecimal fields.VirtualAddress)

abbrev pub dash_for_a_token : Type 0
dash_for_a_token = IsWrong (codes "e 0 -") 5 (NotHexadecimal fields.Token)

abbrev pub name_of_a_register : Type 0
name_of_a_register = IsWrong (codes "f 0 x0 -") 5 (NotOptional fields.Rs1)

abbrev pub prefixed : Type 0
prefixed = IsWrong (codes "u 0 0x1000") 5 Prefixed

abbrev pub prefixed_in_upper_case : Type 0
prefixed_in_upper_case = IsWrong (codes "u 0 0X1000") 5 Prefixed

abbrev pub seventeen_digits : Type 0
seventeen_digits = IsWrong (codes "u 0 00000000000001000") 5 TooLong

abbrev pub hart_in_hexadecimal : Type 0
hart_in_hexadecimal = IsWrong (codes "u a 1000") 3 (NotDecimal fields.Hart)

abbrev pub hart_too_great : Type 0
hart_too_great = IsWrong (codes "u 12 1000") 3 (NoHart 12 11)

abbrev pub unaligned_word : Type 0
unaligned_word = IsWrong (codes "w 0 80000004 1") 5 (Unaligned 0x80000004)

abbrev pub wide_asid : Type 0
wide_asid = IsWrong (codes "r 0 2 3 1000 1000 10000") 19 (WideAsid 0x10000)

abbrev pub satp_of_mode_1 : Type 0
satp_of_mode_1 = IsWrong (codes "s 0 1000a00000080000") 5 (OtherMode 1 Sv39)

abbrev pub satp_of_the_other_scheme : Type 0
satp_of_the_other_scheme = IsWrong (codes "s 0 9000a00000080000") 5 (OtherMode 9 Sv39)

abbrev pub no_space_before_a_note : Type 0
no_space_before_a_note = IsWrong (codes "u 0 1000@note") 9 NoSpace

abbrev pub note_alone : Type 0
note_alone = IsWrong (codes "@note") 1 OtherLetter

abbrev pub note_after_a_space : Type 0
note_after_a_space = IsWrong (codes " @note") 1 Space

abbrev pub hart_before_the_address : Type 0
hart_before_the_address = IsWrong (codes "w 12 80000004 g@note") 3 (NoHart 12 11)

abbrev pub address_before_what_is_missing : Type 0
address_before_what_is_missing = IsWrong (codes "w 0 80000004") 5 (Unaligned 0x80000004)

-- ---- bytes that no word has, of two the first; and times of a kernel's log

abbrev pub mark_before_a_tab : Type 0
mark_before_a_tab = BeginsWrong (byte_order_mark ++ codes "watch\t1 2 sv39") 1 ByteOrderMark

abbrev pub tab_before_a_mark : Type 0
tab_before_a_mark = BeginsWrong (codes "\t" ++ byte_order_mark ++ codes "watch 1 2 sv39") 1 Tab

abbrev pub mark_before_a_return : Type 0
mark_before_a_return = BeginsWrong (byte_order_mark ++ codes "watch\r") 1 ByteOrderMark

abbrev pub tab_before_a_return : Type 0
tab_before_a_return = IsWrong (codes "u 0\t1000\r") 4 Tab

abbrev pub return_before_a_tab : Type 0
return_before_a_tab = IsWrong (codes "u 0\r1000\t") 4 CarriageReturn

abbrev pub zero_before_a_tab : Type 0
zero_before_a_tab = IsWrong (codes "u 0 10" ++ 0 ∷ codes "0\t") 7 ZeroByte

abbrev pub tab_before_a_zero : Type 0
tab_before_a_zero = IsWrong (codes "u 0 10\t0" ++ 0 ∷ []) 7 Tab

abbrev pub zero_before_a_return : Type 0
zero_before_a_return = IsWrong (codes "u 0 1000" ++ 0 ∷ carriage_return) 9 ZeroByte

abbrev pub return_before_a_zero : Type 0
return_before_a_zero = IsWrong (codes "u 0 1000\r" ++ 0 ∷ []) 9 CarriageReturn

abbrev pub zeros_alone : Type 0
zeros_alone = IsWrong (0 ∷ 0 ∷ 0 ∷ []) 1 ZeroByte

abbrev pub file_of_zeros : Type 0
file_of_zeros = BeginsWrong (0 ∷ 0 ∷ []) 1 ZeroByte

abbrev pub compressed : Type 0
compressed = BeginsWrong (0x1F ∷ 0x8B ∷ 8 ∷ 0 ∷ []) 1 (OtherByte 0x1F)

abbrev pub escape_before_a_zero : Type 0
escape_before_a_zero = IsWrong (codes "u 0 " ++ 0x1B ∷ codes "[0m" ++ 0 ∷ []) 5 (OtherByte 0x1B)

abbrev pub zero_before_an_escape : Type 0
zero_before_an_escape = IsWrong (codes "u 0 " ++ 0 ∷ 0x1B ∷ []) 5 ZeroByte

abbrev pub delete : Type 0
delete = IsWrong (codes "u 0 10" ++ 0x7F ∷ []) 7 (OtherByte 0x7F)

abbrev pub letter_with_an_accent : Type 0
letter_with_an_accent = IsWrong (codes "u 0 10" ++ 0xC3 ∷ 0xA9 ∷ []) 7 (OtherByte 0xC3)

abbrev pub last_printable : Type 0
last_printable = IsWrong (codes "u 0 10~") 5 (NotHexadecimal fields.VirtualAddress)

abbrev pub line_after_a_time : Type 0
line_after_a_time = IsWrong (codes "[   12.345678] u 0 1000") 1 LogTime

abbrev pub line_after_a_long_time : Type 0
line_after_a_long_time = IsWrong (codes "[12345.678901] u 0 1000") 1 LogTime

abbrev pub bracket_and_letter : Type 0
bracket_and_letter = IsWrong (codes "[u] 0 1000") 1 OtherLetter

abbrev pub bracket_in_a_field : Type 0
bracket_in_a_field = IsWrong (codes "u 0 [1000") 5 (NotHexadecimal fields.VirtualAddress)

-- ---- lines that just have a form

abbrev pub letters_in_upper_case : Type 0
letters_in_upper_case = HasForm (codes "u 0 10F0")

abbrev pub dash : Type 0
dash = HasForm (codes "f 0 - -")

abbrev pub sixteen_digits : Type 0
sixteen_digits = HasForm (codes "u 0 0000000000001000")

abbrev pub last_hart : Type 0
last_hart = HasForm (codes "u 11 1000")

abbrev pub aligned_word : Type 0
aligned_word = HasForm (codes "w 0 80000008 1")

abbrev pub widest_asid : Type 0
widest_asid = HasForm (codes "r 0 2 3 1000 1000 ffff")

abbrev pub every_asid : Type 0
every_asid = HasForm (codes "r 0 2 3 1000 1000 -")

abbrev pub satp_of_the_scheme : Type 0
satp_of_the_scheme = HasForm (codes "s 0 8000a00000080000")

abbrev pub satp_of_bare : Type 0
satp_of_bare = HasForm (codes "s 0 a00000080000")

abbrev pub noted : Type 0
noted = HasForm (codes "u 0 1000 @note")

abbrev pub return_in_a_note : Type 0
return_in_a_note = HasForm (codes "u 0 1000 @note" ++ carriage_return)

abbrev pub zero_in_a_note : Type 0
zero_in_a_note = HasForm (codes "u 0 1000 @note" ++ 0 ∷ [])

abbrev pub comment_line : Type 0
comment_line = HasForm (codes "# w 0 80000004 1")

abbrev pub mark : Type 0
mark = HasForm (codes "m x")

abbrev pub empty_line : Type 0
empty_line = HasForm []

-- ---- texts

abbrev pub text_of_harts : Type 0
text_of_harts = IsTold (fault_at 9 (OtherHarts 65)) (codes "9: HARTS is 65, not 1 to 64")

abbrev pub text_of_what_is_missing : Type 0
text_of_what_is_missing =
    IsTold (fault_at 13 (Missing forms.Store fields.Value)) (codes "13: VALUE is missing: w H PA VALUE")

abbrev pub text_of_a_field_too_many : Type 0
text_of_a_field_too_many =
    IsTold (fault_at 10 (Excess forms.Use)) (codes "10: a field too many: u H VA")

abbrev pub text_of_no_number : Type 0
text_of_no_number =
    IsTold (fault_at 5 (NotHexadecimal fields.VirtualAddress)) (codes "5: VA is no hexadecimal number")

abbrev pub text_of_no_hart : Type 0
text_of_no_hart =
    IsTold (fault_at 3 (NoHart 12 11)) (codes "3: no hart 12: harts are 0 to 11")

abbrev pub text_of_an_address : Type 0
text_of_an_address =
    IsTold (fault_at 5 (Unaligned 0x80000004)) (codes "5: PA 80000004 is no multiple of 8")

abbrev pub text_of_an_asid : Type 0
text_of_an_asid =
    IsTold (fault_at 19 (WideAsid 0x10000)) (codes "19: ASID 10000 has more than 16 bits")

abbrev pub text_of_a_mode : Type 0
text_of_a_mode =
    IsTold (fault_at 5 (OtherMode 9 Sv39)) (codes "5: MODE of satp is 9: in sv39 it is 0 or 8")

abbrev pub text_of_a_mode_in_sv48 : Type 0
text_of_a_mode_in_sv48 =
    IsTold (fault_at 5 (OtherMode 8 Sv48)) (codes "5: MODE of satp is 8: in sv48 it is 0 or 9")

abbrev pub text_of_a_time : Type 0
text_of_a_time =
    IsTold (fault_at 1 LogTime)
    (codes "1: a time of the kernel's log: sed 's/^\\[[^]]*] *//' takes it out")

abbrev pub text_of_a_mark : Type 0
text_of_a_mark = IsTold (fault_at 1 ByteOrderMark) (codes "1: a byte order mark: a trace has none")

abbrev pub text_of_a_zero : Type 0
text_of_a_zero =
    IsTold (fault_at 9 ZeroByte)
    (codes "9: a byte 0, as of a buffer that was not full: tr -d '\\0' takes it out")

abbrev pub text_of_a_byte : Type 0
text_of_a_byte =
    IsTold (fault_at 5 (OtherByte 0x1B))
    (codes "5: byte 1b: a trace is text, its fields printable ASCII")
