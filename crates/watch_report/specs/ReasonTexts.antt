-- What is printed of a fault of a line.
use Rattle.std.specs.Prelude.{ℕ, codes, List, ◌++◌}
use Rattle.std.specs.Fmt.{decimal}
use Rattle.pte.specs.declared.scheme.Scheme.TheVariants.{Sv39, Sv48}
use Rattle.watch_report.specs.declared.line_fault.LineFault.{LineFault}
use Rattle.watch_report.specs.declared.line_fault.LineReason.{LineReason}
use Rattle.watch_report.specs.declared.line_fault.LineReason.TheVariants.{EmptyStart, NoTrace, LogTime, OtherVersion, OtherHarts, OtherScheme, ByteOrderMark, ZeroByte, CarriageReturn, Tab, OtherByte, Space, OtherLetter, Missing, Excess, NotDecimal, NotHexadecimal, NotOptional, Prefixed, TooLong, NoHart, Unaligned, WideAsid, OtherMode, NoSpace}
use Rattle.watch_report.specs.LineForms.{field_name, form_text}
use Rattle.watch_report.specs.Warnings.{hexadecimal}

abbrev pub line_reason_text : LineReason → List ℕ
line_reason_text EmptyStart =
    codes "the first line is empty: a trace begins with watch 1 HARTS SCHEME"
line_reason_text NoTrace =
    codes "no trace, which begins with watch 1 HARTS SCHEME (a scenario is for svsim run)"
line_reason_text LogTime =
    codes "a time of the kernel's log: sed 's/^\\[[^]]*] *//' takes it out"
line_reason_text OtherVersion = codes "another version: only 1 is known"
line_reason_text (OtherHarts harts) = codes "HARTS is " ++ decimal harts ++ codes ", not 1 to 64"
line_reason_text OtherScheme = codes "SCHEME is neither sv39 nor sv48"
line_reason_text ByteOrderMark = codes "a byte order mark: a trace has none"
line_reason_text ZeroByte =
    codes "a byte 0, as of a buffer that was not full: tr -d '\\0' takes it out"
line_reason_text CarriageReturn = codes "a carriage return: lines end in a line feed alone"
line_reason_text Tab = codes "a tab: one space stands between two fields"
line_reason_text (OtherByte byte) =
    codes "byte " ++ hexadecimal byte ++ codes ": a trace is text, its fields printable ASCII"
line_reason_text Space = codes "a space too many: one stands between two fields, and none at the ends"
line_reason_text OtherLetter =
    codes "no line begins so: a record has one of the letters a c d e f r s u w z, a mark is m TEXT"
line_reason_text (Missing form field) = field_name field ++ codes " is missing: " ++ form_text form
line_reason_text (Excess form) = codes "a field too many: " ++ form_text form
line_reason_text (NotDecimal field) = field_name field ++ codes " is no decimal number"
line_reason_text (NotHexadecimal field) = field_name field ++ codes " is no hexadecimal number"
line_reason_text (NotOptional field) =
    field_name field ++ codes " is neither a hexadecimal number nor -"
line_reason_text Prefixed = codes "a number has no 0x in front"
line_reason_text TooLong = codes "too long: a number has 1 to 16 digits"
line_reason_text (NoHart hart last) =
    codes "no hart " ++ decimal hart ++ codes ": harts are 0 to " ++ decimal last
line_reason_text (Unaligned address) =
    codes "PA " ++ hexadecimal address ++ codes " is no multiple of 8"
line_reason_text (WideAsid asid) = codes "ASID " ++ hexadecimal asid ++ codes " has more than 16 bits"
line_reason_text (OtherMode mode Sv39) =
    codes "MODE of satp is " ++ decimal mode ++ codes ": in sv39 it is 0 or 8"
line_reason_text (OtherMode mode Sv48) =
    codes "MODE of satp is " ++ decimal mode ++ codes ": in sv48 it is 0 or 9"
line_reason_text NoSpace = codes "no space before the note"

-- the column, and the reason
abbrev pub line_fault_text : LineFault → List ℕ
line_fault_text fault = decimal fault.column ++ codes ": " ++ line_reason_text fault.reason
