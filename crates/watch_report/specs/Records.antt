-- What the fields of a record's line say, after its letter and its hart.
use Rattle.std.specs.Prelude.{ℕ, ◌==◌, ◌&&◌, ◌||◌, ◌-◌, ◌/◌, ◌%◌, ◌^◌, nat_lt, codes, List}
use Rattle.std.specs.Prelude.{Option, Some, None, if◌then◌else◌}
use Rattle.std.specs.Str.{bytes_eq}
use Rattle.pte.specs.declared.TheConstants.{ASID_BITS}
use Rattle.pte.specs.declared.entry.TheConstants.{PPN_BITS}
use Rattle.pte.specs.declared.scheme.Scheme.{Scheme}
use Rattle.pte.specs.declared.scheme.Scheme.TheVariants.{Sv39, Sv48}
use Rattle.watch.specs.declared.trace.AddressRange.{AddressRange}
use Rattle.watch.specs.declared.trace.Record.{Record}
use Rattle.watch.specs.declared.trace.Record.TheVariants.{Store, Satp, Fence, RemoteBegin, RemoteEnd, GiveOut, GiveBack, ClaimBegin, ClaimEnd, Use}
use Rattle.watch.specs.declared.trace.Space.{Space}
use Rattle.watch_report.specs.Fields.{◌>>=◌, only_if, one_field, two_fields, four_fields, five_fields, hexadecimal_field, optional_field}

-- the number of 64 bits that are all ones
abbrev pub greatest_word : ℕ
greatest_word = 2 ^ 64 - 1

-- MODE of satp, bits 60 to 63 (privileged manual 4.1.11)
abbrev pub satp_mode : Scheme → ℕ
satp_mode Sv39 = 8
satp_mode Sv48 = 9

-- what is written to satp: no translation, or a root and an ASID in the scheme of the trace
abbrev pub satp_in : Scheme → ℕ → Option (Option Space)
satp_in scheme satp =
    if satp / 2 ^ 60 == 0 then Some None
    else only_if (satp / 2 ^ 60 == satp_mode scheme)
    (Some (record { root = satp % 2 ^ PPN_BITS; asid = satp / 2 ^ PPN_BITS % 2 ^ ASID_BITS }))

-- an ASID has 16 bits; `-` is every ASID
abbrev pub small_asid : Option ℕ → Option (Option ℕ)
small_asid None = Some None
small_asid (Some asid) = only_if (nat_lt asid (2 ^ ASID_BITS)) (Some asid)

abbrev pub asid_field : List ℕ → Option (Option ℕ)
asid_field field = optional_field field >>= small_asid

abbrev pub range_at : ℕ → ℕ → AddressRange
range_at start size = record { start = start; size = size }

-- the addresses of a remote fence: all where the size is all ones, and where it and the start are 0
-- (SBI, RFENCE extension)
abbrev pub fence_range : ℕ → ℕ → Option AddressRange
fence_range start size =
    if size == greatest_word || (start == 0 && size == 0) then None else Some (range_at start size)

-- the addresses of a claim: those from the start on where the size is all ones
abbrev pub claim_range : ℕ → ℕ → Option AddressRange
claim_range start size =
    if start == 0 && size == greatest_word then None else Some (range_at start size)

-- ---- the fields after the hart

-- w H PA VALUE
abbrev pub store_in : ℕ → List (List ℕ) → Option Record
store_in hart fields = do
  f ← two_fields fields
  address ← hexadecimal_field f.0
  word ← hexadecimal_field f.1
  only_if (address % 8 == 0) (Store hart address word)

-- s H SATP
abbrev pub satp_write_in : Scheme → ℕ → List (List ℕ) → Option Record
satp_write_in scheme hart fields = do
  f ← one_field fields
  satp ← hexadecimal_field f
  space ← satp_in scheme satp
  Some (Satp hart space)

-- f H RS1 RS2
abbrev pub fence_in : ℕ → List (List ℕ) → Option Record
fence_in hart fields = do
  f ← two_fields fields
  rs1 ← optional_field f.0
  rs2 ← optional_field f.1
  Some (Fence hart rs1 rs2)

-- r H TOK MASK START SIZE ASID
abbrev pub remote_begin_in : ℕ → List (List ℕ) → Option Record
remote_begin_in hart fields = do
  f ← five_fields fields
  token ← hexadecimal_field f.0
  harts ← hexadecimal_field f.1
  start ← hexadecimal_field f.2
  size ← hexadecimal_field f.3
  asid ← asid_field f.4
  Some (RemoteBegin hart token (record { harts = harts; range = fence_range start size; asid = asid }))

-- e H TOK
abbrev pub remote_end_in : ℕ → List (List ℕ) → Option Record
remote_end_in hart fields = one_field fields >>= hexadecimal_field >>= λ token. Some (RemoteEnd hart token)

-- a H PPN COUNT
abbrev pub give_out_in : ℕ → List (List ℕ) → Option Record
give_out_in hart fields = do
  f ← two_fields fields
  first ← hexadecimal_field f.0
  count ← hexadecimal_field f.1
  Some (GiveOut hart (record { first = first; count = count }))

-- z H PPN COUNT
abbrev pub give_back_in : ℕ → List (List ℕ) → Option Record
give_back_in hart fields = do
  f ← two_fields fields
  first ← hexadecimal_field f.0
  count ← hexadecimal_field f.1
  Some (GiveBack hart (record { first = first; count = count }))

-- c H TOK ROOT START SIZE
abbrev pub claim_begin_in : ℕ → List (List ℕ) → Option Record
claim_begin_in hart fields = do
  f ← four_fields fields
  token ← hexadecimal_field f.0
  root ← optional_field f.1
  start ← hexadecimal_field f.2
  size ← hexadecimal_field f.3
  Some (ClaimBegin hart token (record { root = root; range = claim_range start size }))

-- d H TOK
abbrev pub claim_end_in : ℕ → List (List ℕ) → Option Record
claim_end_in hart fields = one_field fields >>= hexadecimal_field >>= λ token. Some (ClaimEnd hart token)

-- u H VA
abbrev pub use_in : ℕ → List (List ℕ) → Option Record
use_in hart fields = one_field fields >>= hexadecimal_field >>= λ address. Some (Use hart address)

-- the letter says which
abbrev pub record_by : Scheme → List ℕ → ℕ → List (List ℕ) → Option Record
record_by scheme letter hart fields =
    if bytes_eq letter (codes "w") then store_in hart fields
    else if bytes_eq letter (codes "s") then satp_write_in scheme hart fields
    else if bytes_eq letter (codes "f") then fence_in hart fields
    else if bytes_eq letter (codes "r") then remote_begin_in hart fields
    else if bytes_eq letter (codes "e") then remote_end_in hart fields
    else if bytes_eq letter (codes "a") then give_out_in hart fields
    else if bytes_eq letter (codes "z") then give_back_in hart fields
    else if bytes_eq letter (codes "c") then claim_begin_in hart fields
    else if bytes_eq letter (codes "d") then claim_end_in hart fields
    else if bytes_eq letter (codes "u") then use_in hart fields
    else None
