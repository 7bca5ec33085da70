-- What is printed of a record reads as that record.
use Rattle.std.specs.Prelude.{◌≡◌, ℕ, ◌<◌, ◌%◌, ◌^◌, Option, Some, None}
use Rattle.pte.specs.declared.TheConstants.{ASID_BITS}
use Rattle.pte.specs.declared.entry.TheConstants.{PPN_BITS}
use Rattle.watch.specs.declared.trace.AddressRange.{AddressRange}
use Rattle.watch.specs.declared.trace.Record.{Record}
use Rattle.watch.specs.declared.trace.Record.TheVariants.{Store, Satp, Fence, RemoteBegin, RemoteEnd, GiveOut, GiveBack, ClaimBegin, ClaimEnd, Use}
use Rattle.watch.specs.declared.trace.Space.{Space}
use Rattle.watch_report.specs.Records.{claim_range, fence_range}

abbrev pub FitsWord : ℕ → Type 0
FitsWord n = n < 2 ^ 64

abbrev pub FitsWordOrNone : Option ℕ → Type 0
FitsWordOrNone None = Unit {0}
FitsWordOrNone (Some n) = FitsWord n

abbrev pub FitsSatpOrNone : Option Space → Type 0
FitsSatpOrNone None = Unit {0}
FitsSatpOrNone (Some space) = (space.root < 2 ^ PPN_BITS) × (space.asid < 2 ^ ASID_BITS)

abbrev pub FitsAsidOrNone : Option ℕ → Type 0
FitsAsidOrNone None = Unit {0}
FitsAsidOrNone (Some asid) = asid < 2 ^ ASID_BITS

-- the start and the size of a range are not those that are read as all addresses
abbrev pub IsRangeOrNone : (ℕ → ℕ → Option AddressRange) → Option AddressRange → Type 0
IsRangeOrNone read None = Unit {0}
IsRangeOrNone read (Some range) =
    FitsWord range.start × FitsWord range.size × (read range.start range.size ≡ Some range)

-- the record has a line of its own: its numbers fit, an address of a word is a multiple of 8, and
-- no range has another one's start and size
abbrev pub HasLine : Record → Type 0
HasLine (Store hart address word) = FitsWord address × FitsWord word × (address % 8 ≡ 0)
HasLine (Satp hart space) = FitsSatpOrNone space
HasLine (Fence hart rs1 rs2) = FitsWordOrNone rs1 × FitsWordOrNone rs2
HasLine (RemoteBegin hart token fence) =
    FitsWord token × FitsWord fence.harts × IsRangeOrNone fence_range fence.range
    × FitsAsidOrNone fence.asid
HasLine (RemoteEnd hart token) = FitsWord token
HasLine (GiveOut hart frames) = FitsWord frames.first × FitsWord frames.count
HasLine (GiveBack hart frames) = FitsWord frames.first × FitsWord frames.count
HasLine (ClaimBegin hart token claim) =
    FitsWord token × FitsWordOrNone claim.root × IsRangeOrNone claim_range claim.range
HasLine (ClaimEnd hart token) = FitsWord token
HasLine (Use hart address) = FitsWord address
