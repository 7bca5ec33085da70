-- What a record's fields say, read one after another.
use Rattle.std.specs.Prelude.{ℕ, ◌==◌, ◌%◌, List, Option, Some, None, if◌then◌else◌}
use Rattle.pte.specs.declared.scheme.Scheme.{Scheme}
use Rattle.watch.specs.declared.trace.Frames.{Frames}
use Rattle.watch.specs.declared.trace.Record.{Record}
use Rattle.watch.specs.declared.trace.Record.TheVariants.{Store, Satp, Fence, RemoteBegin, GiveOut, GiveBack, ClaimBegin}
use Rattle.watch_report.specs.declared.header.Header.{Header}
use Rattle.watch_report.specs.Fields.{◌>>=◌, only_if}
use Rattle.watch_report.specs.NextFields.{last_number, last_optional, next_hart, next_letter, next_number, next_optional}
use Rattle.watch_report.specs.Records.{claim_end_in, claim_range, fence_range, remote_end_in, satp_in, small_asid, use_in}

abbrev pub last_asid : List (List ℕ) → Option (Option ℕ)
last_asid fields = last_optional fields >>= small_asid

abbrev pub read_store : ℕ → List (List ℕ) → Option Record
read_store hart fields = do
  address ← next_number 16 fields
  word ← last_number 16 address.1
  only_if (address.0 % 8 == 0) (Store hart address.0 word)

abbrev pub read_satp_write : Scheme → ℕ → List (List ℕ) → Option Record
read_satp_write scheme hart fields = do
  satp ← last_number 16 fields
  space ← satp_in scheme satp
  Some (Satp hart space)

abbrev pub read_fence : ℕ → List (List ℕ) → Option Record
read_fence hart fields = do
  rs1 ← next_optional fields
  rs2 ← last_optional rs1.1
  Some (Fence hart rs1.0 rs2)

abbrev pub read_remote_begin : ℕ → List (List ℕ) → Option Record
read_remote_begin hart fields = do
  token ← next_number 16 fields
  harts ← next_number 16 token.1
  start ← next_number 16 harts.1
  size ← next_number 16 start.1
  asid ← last_asid size.1
  Some (RemoteBegin hart token.0 (record { harts = harts.0; range = fence_range start.0 size.0; asid = asid }))

abbrev pub read_frames : List (List ℕ) → Option Frames
read_frames fields = do
  first ← next_number 16 fields
  count ← last_number 16 first.1
  Some (record { first = first.0; count = count })

abbrev pub read_give_out : ℕ → List (List ℕ) → Option Record
read_give_out hart fields = read_frames fields >>= λ frames. Some (GiveOut hart frames)

abbrev pub read_give_back : ℕ → List (List ℕ) → Option Record
read_give_back hart fields = read_frames fields >>= λ frames. Some (GiveBack hart frames)

abbrev pub read_claim_begin : ℕ → List (List ℕ) → Option Record
read_claim_begin hart fields = do
  token ← next_number 16 fields
  root ← next_optional token.1
  start ← next_number 16 root.1
  size ← last_number 16 start.1
  Some (ClaimBegin hart token.0 (record { root = root.0; range = claim_range start.0 size }))

-- the letter says which
abbrev pub read_record : Scheme → ℕ → ℕ → List (List ℕ) → Option Record
read_record scheme letter hart fields =
    if letter == 119 then read_store hart fields
    else if letter == 115 then read_satp_write scheme hart fields
    else if letter == 102 then read_fence hart fields
    else if letter == 114 then read_remote_begin hart fields
    else if letter == 101 then remote_end_in hart fields
    else if letter == 97 then read_give_out hart fields
    else if letter == 122 then read_give_back hart fields
    else if letter == 99 then read_claim_begin hart fields
    else if letter == 100 then claim_end_in hart fields
    else if letter == 117 then use_in hart fields
    else None

-- the letter and the hart, and then the others
abbrev pub read_fields : Header → List (List ℕ) → Option Record
read_fields header fields = do
  letter ← next_letter fields
  hart ← next_hart header.harts letter.1
  read_record header.scheme letter.0 hart.0 hart.1
