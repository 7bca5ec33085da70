-- What is printed of a fault of the list of what is known.
use Rattle.std.specs.Prelude.{ℕ, codes, List, ◌++◌}
use Rattle.std.specs.Fmt.{decimal}
use Rattle.watch_report.specs.declared.known_fault.KnownFault.{KnownFault}
use Rattle.watch_report.specs.declared.known_fault.KnownReason.{KnownReason}
use Rattle.watch_report.specs.declared.known_fault.KnownReason.TheVariants.{CarriageReturn, OtherByte, NoSpace, Space, NoOwner, NoVerdict, NoReason, NoAddress, NoSize, Excess}
use Rattle.watch_report.specs.declared.line_fault.LineReason.TheVariants as lines
use Rattle.watch_report.specs.ReasonTexts.{line_reason_text}
use Rattle.watch_report.specs.Warnings.{hexadecimal}

-- what a trace may not have either has one text
abbrev pub known_reason_text : KnownReason → List ℕ
known_reason_text CarriageReturn = line_reason_text lines.CarriageReturn
known_reason_text (OtherByte byte) =
    codes "byte " ++ hexadecimal byte ++ codes ": the words of an entry are printable ASCII"
known_reason_text NoSpace = line_reason_text lines.NoSpace
known_reason_text Space = line_reason_text lines.Space
known_reason_text NoOwner = codes "no owner: an entry begins with user or kernel"
known_reason_text NoVerdict =
    codes "no first verdict behind the owner: free, reuse, claim or use, or - for any"
known_reason_text NoReason =
    codes "no reason behind the verdict: no-flush, no-fence, other-hart, other-asid, other-page or not-done, or - for any"
known_reason_text NoAddress =
    codes "no START, a hexadecimal number, and no reach: used, reachable or not-reached"
known_reason_text NoSize = codes "no SIZE behind START, a hexadecimal number"
known_reason_text Excess = codes "a word too many: OWNER FIRST REASON [REACH] [START SIZE] [@NOTE]"

-- the number of the line, and the reason
abbrev pub known_fault_text : KnownFault → List ℕ
known_fault_text fault = decimal fault.line ++ codes ": " ++ known_reason_text fault.reason
