-- The line that is printed of a record.
use Rattle.std.specs.Prelude.{ℕ, ◌==◌, ◌+◌, ◌*◌, ◌%◌, ◌^◌, codes, List, [], ◌∷◌, ◌++◌, length, Option, Some, None, if◌then◌else◌}
use Rattle.std.specs.Fmt.{decimal}
use Rattle.std.specs.List.{join_with_byte}
use Rattle.pte.specs.declared.entry.TheConstants.{PPN_BITS}
use Rattle.pte.specs.declared.scheme.Scheme.{Scheme}
use Rattle.watch.specs.declared.trace.AddressRange.{AddressRange}
use Rattle.watch.specs.declared.trace.Record.{Record}
use Rattle.watch.specs.declared.trace.Record.TheVariants.{Store, Satp, Fence, RemoteBegin, RemoteEnd, GiveOut, GiveBack, ClaimBegin, ClaimEnd, Use}
use Rattle.watch.specs.declared.trace.Space.{Space}
use Rattle.watch_report.specs.Records.{greatest_word, satp_mode}
use Rattle.watch_report.specs.Warnings.{hexadecimal}

-- a number, or `-` for none
abbrev pub optional_text : Option ℕ → List ℕ
optional_text None = codes "-"
optional_text (Some n) = hexadecimal n

-- what satp holds for a space (privileged manual 4.1.11), of whose root the low 44 bits count
abbrev pub satp_word : Scheme → Option Space → ℕ
satp_word scheme None = 0
satp_word scheme (Some space) =
    satp_mode scheme * 2 ^ 60 + space.asid * 2 ^ PPN_BITS + space.root % 2 ^ PPN_BITS

-- all addresses are those from 0 on, with a size that is all ones
abbrev pub range_start : Option AddressRange → ℕ
range_start None = 0
range_start (Some range) = range.start

abbrev pub range_size : Option AddressRange → ℕ
range_size None = greatest_word
range_size (Some range) = range.size

abbrev pub record_fields : Scheme → Record → List (List ℕ)
record_fields scheme (Store hart address word) =
    codes "w" ∷ decimal hart ∷ hexadecimal address ∷ hexadecimal word ∷ []
record_fields scheme (Satp hart space) =
    codes "s" ∷ decimal hart ∷ hexadecimal (satp_word scheme space) ∷ []
record_fields scheme (Fence hart rs1 rs2) =
    codes "f" ∷ decimal hart ∷ optional_text rs1 ∷ optional_text rs2 ∷ []
record_fields scheme (RemoteBegin hart token fence) =
    codes "r" ∷ decimal hart ∷ hexadecimal token ∷ hexadecimal fence.harts
    ∷ hexadecimal (range_start fence.range) ∷ hexadecimal (range_size fence.range)
    ∷ optional_text fence.asid ∷ []
record_fields scheme (RemoteEnd hart token) = codes "e" ∷ decimal hart ∷ hexadecimal token ∷ []
record_fields scheme (GiveOut hart frames) =
    codes "a" ∷ decimal hart ∷ hexadecimal frames.first ∷ hexadecimal frames.count ∷ []
record_fields scheme (GiveBack hart frames) =
    codes "z" ∷ decimal hart ∷ hexadecimal frames.first ∷ hexadecimal frames.count ∷ []
record_fields scheme (ClaimBegin hart token claim) =
    codes "c" ∷ decimal hart ∷ hexadecimal token ∷ optional_text claim.root
    ∷ hexadecimal (range_start claim.range) ∷ hexadecimal (range_size claim.range) ∷ []
record_fields scheme (ClaimEnd hart token) = codes "d" ∷ decimal hart ∷ hexadecimal token ∷ []
record_fields scheme (Use hart address) = codes "u" ∷ decimal hart ∷ hexadecimal address ∷ []

-- the fields, with a space between each two
abbrev pub record_text : Scheme → Record → List ℕ
record_text scheme made = join_with_byte 32 (record_fields scheme made)

-- the note, if there is one
abbrev pub note_text : List ℕ → List ℕ
note_text by = if length by == 0 then [] else codes " @" ++ by
