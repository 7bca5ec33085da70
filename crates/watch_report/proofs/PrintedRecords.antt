-- What is printed of a record reads as that record.
use Rattle.std.proofs.Common.{◌≡◌, ℕ, ◌<◌, ◌≤◌, false, nat_eq, List, [], ◌∷◌, ◌++◌, drop, Some, refl, ◌∙◌, append-nil}
use Rattle.std.specs.Fmt.{decimal}
use Rattle.std.specs.List.{join_with_byte}
use Rattle.watch.specs.declared.trace.Record.{Record}
use Rattle.watch.specs.declared.trace.Record.TheVariants.{Store, Satp, Fence, RemoteBegin, RemoteEnd, GiveOut, GiveBack, ClaimBegin, ClaimEnd, Use}
use Rattle.watch.specs.Trace.{hart_of}
use Rattle.watch_report.specs.declared.header.Header.{Header}
use Rattle.watch_report.specs.ReadBack.{HasLine}
use Rattle.watch_report.specs.RecordLines.{note_text, record_fields, record_text, satp_word, range_size, range_start}
use Rattle.watch_report.specs.Records.{claim_range, fence_range}
use Rattle.watch_report.specs.TraceLines.{line_in, record_in, record_line_in, record_of}
use Rattle.watch_report.proofs.PrintedLines.{ArePlain, fields_of-joined, joined_has_no_note, not_noted, noted, some_bytes}
use Rattle.watch_report.proofs.PrintedNumbers.{plain_asid, plain_hart, plain_number, plain_optional, reads_asid, reads_claim_range, reads_fence_range, reads_hart, reads_number, reads_optional, reads_satp, small_satp, small_size, small_start}

reads : (header : Header) (made : Record) → header.harts ≤ 64 → hart_of made < header.harts → HasLine made → record_in header (record_fields header.scheme made) ≡ Some made
reads header (Store hart address word) most less h =
    rw (reads_hart header.harts hart most less, reads_number address h.0, reads_number word h.1, h.2) refl
reads header (Satp hart space) most less h =
    rw (reads_hart header.harts hart most less, reads_number (satp_word header.scheme space) (small_satp header.scheme space h), reads_satp header.scheme space h) refl
reads header (Fence hart rs1 rs2) most less h =
    rw (reads_hart header.harts hart most less, reads_optional rs1 h.0, reads_optional rs2 h.1) refl
reads header (RemoteBegin hart token fence) most less h =
    rw (
      reads_hart header.harts hart most less,
      reads_number token h.0,
      reads_number fence.harts h.1,
      reads_number (range_start fence.range) (small_start fence_range fence.range h.2),
      reads_number (range_size fence.range) (small_size fence_range fence.range h.2),
      reads_asid fence.asid h.3,
      reads_fence_range fence.range h.2,
    ) refl
reads header (RemoteEnd hart token) most less h = rw (reads_hart header.harts hart most less, reads_number token h) refl
reads header (GiveOut hart frames) most less h =
    rw (reads_hart header.harts hart most less, reads_number frames.first h.0, reads_number frames.count h.1) refl
reads header (GiveBack hart frames) most less h =
    rw (reads_hart header.harts hart most less, reads_number frames.first h.0, reads_number frames.count h.1) refl
reads header (ClaimBegin hart token claim) most less h =
    rw (
      reads_hart header.harts hart most less,
      reads_number token h.0,
      reads_optional claim.root h.1,
      reads_number (range_start claim.range) (small_start claim_range claim.range h.2),
      reads_number (range_size claim.range) (small_size claim_range claim.range h.2),
      reads_claim_range claim.range h.2,
    ) refl
reads header (ClaimEnd hart token) most less h = rw (reads_hart header.harts hart most less, reads_number token h) refl
reads header (Use hart address) most less h = rw (reads_hart header.harts hart most less, reads_number address h) refl

-- ---- the line

record_line : (header : Header) (made : Record) (by field : List ℕ) (fields : List (List ℕ)) → ArePlain (field ∷ fields) → record_in header (field ∷ fields) ≡ Some made
    → record_line_in header (join_with_byte 32 (field ∷ fields) ++ note_text by) ≡ Some (record_of made by)
record_line header made [] field fields plain read =
    let found = not_noted (join_with_byte 32 (field ∷ fields)) (joined_has_no_note field fields plain) in
    rw (append-nil (join_with_byte 32 (field ∷ fields)), found.0, fields_of-joined field fields plain, read, found.1) refl
record_line header made (b ∷ by) field fields plain read =
    let found = noted (join_with_byte 32 (field ∷ fields)) (b ∷ by) (joined_has_no_note field fields plain) in
    rw (some_bytes b by, found.0, fields_of-joined field fields plain, read, found.1) refl

is_record_line : (header : Header) (c : ℕ) (text : List ℕ) → nat_eq 35 c ≡ false → nat_eq 109 c ≡ false → line_in header (c ∷ text) ≡ record_line_in header (c ∷ text)
is_record_line header c text number mark = rw (some_bytes c text, number, mark) refl

-- the letter, the hart and what follows
printed : (header : Header) (made : Record) (by : List ℕ) (c : ℕ) (hart : List ℕ) (fields : List (List ℕ)) → nat_eq 35 c ≡ false → nat_eq 109 c ≡ false → ArePlain ((c ∷ []) ∷ hart ∷ fields)
    → record_in header ((c ∷ []) ∷ hart ∷ fields) ≡ Some made → line_in header (join_with_byte 32 ((c ∷ []) ∷ hart ∷ fields) ++ note_text by) ≡ Some (record_of made by)
printed header made by c hart fields number mark plain read =
    is_record_line header c (32 ∷ join_with_byte 32 (hart ∷ fields) ++ note_text by) number mark ∙ record_line header made by (c ∷ []) (hart ∷ fields) plain read

pub printed_is_read : (header : Header) (made : Record) (by : List ℕ) → header.harts ≤ 64 → hart_of made < header.harts → HasLine made
    → line_in header (record_text header.scheme made ++ note_text by) ≡ Some (record_of made by)
printed_is_read header (Store hart address word) by most less h =
    printed header (Store hart address word) by 119 (decimal hart) (drop 2 (record_fields header.scheme (Store hart address word))) refl refl
    (((refl, refl), tt), (plain_hart header.harts hart most less, (plain_number address h.0, (plain_number word h.1, tt))))
    (reads header (Store hart address word) most less h)
printed_is_read header (Satp hart space) by most less h =
    printed header (Satp hart space) by 115 (decimal hart) (drop 2 (record_fields header.scheme (Satp hart space))) refl refl
    (((refl, refl), tt), (plain_hart header.harts hart most less, (plain_number (satp_word header.scheme space) (small_satp header.scheme space h), tt)))
    (reads header (Satp hart space) most less h)
printed_is_read header (Fence hart rs1 rs2) by most less h =
    printed header (Fence hart rs1 rs2) by 102 (decimal hart) (drop 2 (record_fields header.scheme (Fence hart rs1 rs2))) refl refl
    (((refl, refl), tt), (plain_hart header.harts hart most less, (plain_optional rs1 h.0, (plain_optional rs2 h.1, tt))))
    (reads header (Fence hart rs1 rs2) most less h)
printed_is_read header (RemoteBegin hart token fence) by most less h =
    printed header (RemoteBegin hart token fence) by 114 (decimal hart) (drop 2 (record_fields header.scheme (RemoteBegin hart token fence))) refl refl (
      ((refl, refl), tt),
      (
        plain_hart header.harts hart most less,
        (
          plain_number token h.0,
          (
            plain_number fence.harts h.1,
            (
              plain_number (range_start fence.range) (small_start fence_range fence.range h.2),
              (plain_number (range_size fence.range) (small_size fence_range fence.range h.2), (plain_asid fence.asid h.3, tt)),
            ),
          ),
        ),
      ),
    )
    (reads header (RemoteBegin hart token fence) most less h)
printed_is_read header (RemoteEnd hart token) by most less h =
    printed header (RemoteEnd hart token) by 101 (decimal hart) (drop 2 (record_fields header.scheme (RemoteEnd hart token))) refl refl
    (((refl, refl), tt), (plain_hart header.harts hart most less, (plain_number token h, tt)))
    (reads header (RemoteEnd hart token) most less h)
printed_is_read header (GiveOut hart frames) by most less h =
    printed header (GiveOut hart frames) by 97 (decimal hart) (drop 2 (record_fields header.scheme (GiveOut hart frames))) refl refl
    (((refl, refl), tt), (plain_hart header.harts hart most less, (plain_number frames.first h.0, (plain_number frames.count h.1, tt))))
    (reads header (GiveOut hart frames) most less h)
printed_is_read header (GiveBack hart frames) by most less h =
    printed header (GiveBack hart frames) by 122 (decimal hart) (drop 2 (record_fields header.scheme (GiveBack hart frames))) refl refl
    (((refl, refl), tt), (plain_hart header.harts hart most less, (plain_number frames.first h.0, (plain_number frames.count h.1, tt))))
    (reads header (GiveBack hart frames) most less h)
printed_is_read header (ClaimBegin hart token claim) by most less h =
    printed header (ClaimBegin hart token claim) by 99 (decimal hart) (drop 2 (record_fields header.scheme (ClaimBegin hart token claim))) refl refl (
      ((refl, refl), tt),
      (
        plain_hart header.harts hart most less,
        (
          plain_number token h.0,
          (
            plain_optional claim.root h.1,
            (
              plain_number (range_start claim.range) (small_start claim_range claim.range h.2),
              (plain_number (range_size claim.range) (small_size claim_range claim.range h.2), tt),
            ),
          ),
        ),
      ),
    )
    (reads header (ClaimBegin hart token claim) most less h)
printed_is_read header (ClaimEnd hart token) by most less h =
    printed header (ClaimEnd hart token) by 100 (decimal hart) (drop 2 (record_fields header.scheme (ClaimEnd hart token))) refl refl
    (((refl, refl), tt), (plain_hart header.harts hart most less, (plain_number token h, tt)))
    (reads header (ClaimEnd hart token) most less h)
printed_is_read header (Use hart address) by most less h =
    printed header (Use hart address) by 117 (decimal hart) (drop 2 (record_fields header.scheme (Use hart address))) refl refl
    (((refl, refl), tt), (plain_hart header.harts hart most less, (plain_number address h, tt)))
    (reads header (Use hart address) most less h)
