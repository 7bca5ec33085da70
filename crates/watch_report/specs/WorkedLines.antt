-- Worked lines: what was worked out by hand from the table of the format.
use Rattle.std.specs.Prelude.{◌≡◌, ℕ, codes, List, [], Option, Some, None}
use Rattle.pte.specs.declared.scheme.Scheme.{Scheme}
use Rattle.pte.specs.declared.scheme.Scheme.TheVariants.{Sv39, Sv48}
use Rattle.watch.specs.declared.trace.AddressRange.{AddressRange}
use Rattle.watch.specs.declared.trace.Claim.{Claim}
use Rattle.watch.specs.declared.trace.Frames.{Frames}
use Rattle.watch.specs.declared.trace.Record.{Record}
use Rattle.watch.specs.declared.trace.Record.TheVariants.{Store, Satp, Fence, RemoteBegin, RemoteEnd, GiveOut, GiveBack, ClaimBegin, ClaimEnd, Use}
use Rattle.watch.specs.declared.trace.RemoteFence.{RemoteFence}
use Rattle.watch.specs.declared.trace.Space.{Space}
use Rattle.watch_report.specs.declared.header.Header.{Header}
use Rattle.watch_report.specs.Fields.{fields_of}
use Rattle.watch_report.specs.RecordLines.{record_text}
use Rattle.watch_report.specs.TraceLines.{comment, empty, header_in, line_in, mark_of, record_of}

abbrev pub machine : ℕ → Scheme → Header
machine harts scheme = record { harts = harts; scheme = scheme }

-- a first line
abbrev pub Begins : List ℕ → ℕ → Scheme → Type 0
Begins text harts scheme = header_in (fields_of text) ≡ Some (machine harts scheme)

abbrev pub IsNoHeader : List ℕ → Type 0
IsNoHeader text = header_in (fields_of text) ≡ None

-- a line of a record in a trace of 12 harts and Sv39, and what its note says
abbrev pub ReadsAs : List ℕ → Record → List ℕ → Type 0
ReadsAs text made by = line_in (machine 12 Sv39) text ≡ Some (record_of made by)

-- the same of the line that is printed of the record
abbrev pub ReadsAndPrints : List ℕ → Record → Type 0
ReadsAndPrints text made = (record_text Sv39 made ≡ text) × ReadsAs text made []

abbrev pub HasNoForm : List ℕ → Type 0
HasNoForm text = line_in (machine 12 Sv39) text ≡ None

abbrev pub some_space : ℕ → ℕ → Option Space
some_space root asid = Some (record { root = root; asid = asid })

abbrev pub some_range : ℕ → ℕ → Option AddressRange
some_range start size = Some (record { start = start; size = size })

abbrev pub some_frames : ℕ → ℕ → Frames
some_frames first count = record { first = first; count = count }

abbrev pub some_fence : ℕ → Option AddressRange → Option ℕ → RemoteFence
some_fence harts addresses asid = record { harts = harts; range = addresses; asid = asid }

abbrev pub some_claim : Option ℕ → Option AddressRange → Claim
some_claim root addresses = record { root = root; range = addresses }

-- ---- first lines

abbrev pub two_harts : Type 0
two_harts = Begins (codes "watch 1 2 sv39") 2 Sv39

abbrev pub most_harts : Type 0
most_harts = Begins (codes "watch 1 64 sv48") 64 Sv48

abbrev pub no_harts : Type 0
no_harts = IsNoHeader (codes "watch 1 0 sv39")

abbrev pub too_many_harts : Type 0
too_many_harts = IsNoHeader (codes "watch 1 65 sv39")

abbrev pub other_version : Type 0
other_version = IsNoHeader (codes "watch 2 2 sv39")

abbrev pub other_scheme : Type 0
other_scheme = IsNoHeader (codes "watch 1 2 sv57")

abbrev pub no_scheme : Type 0
no_scheme = IsNoHeader (codes "watch 1 2")

abbrev pub more_than_a_scheme : Type 0
more_than_a_scheme = IsNoHeader (codes "watch 1 2 sv39 ")

-- ---- records, each in both directions

abbrev pub store : Type 0
store = ReadsAndPrints (codes "w 11 80000008 20000401") (Store 11 0x80000008 0x20000401)

abbrev pub satp : Type 0
satp = ReadsAndPrints (codes "s 1 8000a00000080000") (Satp 1 (some_space 0x80000 10))

abbrev pub satp_of_all_ones : Type 0
satp_of_all_ones =
    ReadsAndPrints (codes "s 1 8fffffffffffffff") (Satp 1 (some_space 0xFFFFFFFFFFF 0xFFFF))

abbrev pub satp_bare : Type 0
satp_bare = ReadsAndPrints (codes "s 1 0") (Satp 1 None)

abbrev pub fence_of_an_address : Type 0
fence_of_an_address = ReadsAndPrints (codes "f 0 1000 -") (Fence 0 (Some 0x1000) None)

abbrev pub fence_of_an_asid : Type 0
fence_of_an_asid = ReadsAndPrints (codes "f 0 - a") (Fence 0 None (Some 10))

abbrev pub fence_of_all : Type 0
fence_of_all = ReadsAndPrints (codes "f 0 - -") (Fence 0 None None)

abbrev pub remote_fence : Type 0
remote_fence =
    ReadsAndPrints (codes "r 0 2 3 1000 2000 a")
    (RemoteBegin 0 2 (some_fence 3 (some_range 0x1000 0x2000) (Some 10)))

abbrev pub remote_fence_of_all : Type 0
remote_fence_of_all =
    ReadsAndPrints (codes "r 0 2 3 0 ffffffffffffffff -") (RemoteBegin 0 2 (some_fence 3 None None))

abbrev pub remote_end : Type 0
remote_end = ReadsAndPrints (codes "e 0 2") (RemoteEnd 0 2)

abbrev pub give_out : Type 0
give_out = ReadsAndPrints (codes "a 0 100 1") (GiveOut 0 (some_frames 0x100 1))

abbrev pub give_back : Type 0
give_back = ReadsAndPrints (codes "z 0 100 2") (GiveBack 0 (some_frames 0x100 2))

abbrev pub claim : Type 0
claim =
    ReadsAndPrints (codes "c 0 1 80000 1000 2000")
    (ClaimBegin 0 1 (some_claim (Some 0x80000) (some_range 0x1000 0x2000)))

abbrev pub claim_of_all : Type 0
claim_of_all =
    ReadsAndPrints (codes "c 0 1 - 0 ffffffffffffffff") (ClaimBegin 0 1 (some_claim None None))

abbrev pub claim_to_the_end : Type 0
claim_to_the_end =
    ReadsAndPrints (codes "c 0 1 - 1000 ffffffffffffffff")
    (ClaimBegin 0 1 (some_claim None (some_range 0x1000 0xFFFFFFFFFFFFFFFF)))

abbrev pub claim_end : Type 0
claim_end = ReadsAndPrints (codes "d 0 1") (ClaimEnd 0 1)

abbrev pub usage : Type 0
usage = ReadsAndPrints (codes "u 3 ffffffc000001234") (Use 3 0xFFFFFFC000001234)

-- ---- lines that are read and not printed so

abbrev pub upper_case : Type 0
upper_case = ReadsAs (codes "u 3 FFFFFFC00000ABCD") (Use 3 0xFFFFFFC00000ABCD) []

abbrev pub zeros_in_front : Type 0
zeros_in_front = ReadsAs (codes "u 003 0000000000001234") (Use 3 0x1234) []

abbrev pub satp_with_the_rest_of_bare : Type 0
satp_with_the_rest_of_bare = ReadsAs (codes "s 1 80000") (Satp 1 None) []

abbrev pub remote_fence_of_zeros : Type 0
remote_fence_of_zeros = ReadsAs (codes "r 0 2 3 0 0 a") (RemoteBegin 0 2 (some_fence 3 None (Some 10))) []

abbrev pub remote_fence_of_all_ones : Type 0
remote_fence_of_all_ones =
    ReadsAs (codes "r 0 2 3 1000 ffffffffffffffff -") (RemoteBegin 0 2 (some_fence 3 None None)) []

abbrev pub remote_fence_of_no_bytes : Type 0
remote_fence_of_no_bytes =
    ReadsAs (codes "r 0 2 3 1000 0 -") (RemoteBegin 0 2 (some_fence 3 (some_range 0x1000 0) None)) []

abbrev pub claim_of_no_bytes : Type 0
claim_of_no_bytes = ReadsAs (codes "c 0 1 - 0 0") (ClaimBegin 0 1 (some_claim None (some_range 0 0))) []

abbrev pub noted : Type 0
noted = ReadsAs (codes "w 0 80000008 0 @unmap page") (Store 0 0x80000008 0) (codes "unmap page")

abbrev pub commented : Type 0
commented = ReadsAs (codes "e 0 2 # @done #1") (RemoteEnd 0 2) (codes " @done #1")

abbrev pub mark : Type 0
mark = line_in (machine 12 Sv39) (codes "m of a test  @1") ≡ Some (mark_of (codes "of a test  @1"))

abbrev pub comment_line : Type 0
comment_line = line_in (machine 12 Sv39) (codes "# w 0 80000004 1") ≡ Some comment

abbrev pub empty_line : Type 0
empty_line = line_in (machine 12 Sv39) [] ≡ Some empty

-- ---- lines that have no form

abbrev pub two_spaces : Type 0
two_spaces = HasNoForm (codes "u 0  1000")

abbrev pub space_in_front : Type 0
space_in_front = HasNoForm (codes " u 0 1000")

abbrev pub space_at_the_end : Type 0
space_at_the_end = HasNoForm (codes "u 0 1000 ")

abbrev pub two_spaces_before_a_note : Type 0
two_spaces_before_a_note = HasNoForm (codes "u 0 1000  @note")

abbrev pub no_space_before_a_note : Type 0
no_space_before_a_note = HasNoForm (codes "u 0 1000@note")

abbrev pub field_missing : Type 0
field_missing = HasNoForm (codes "w 0 80000000")

abbrev pub field_too_many : Type 0
field_too_many = HasNoForm (codes "u 0 1000 1")

abbrev pub no_fields : Type 0
no_fields = HasNoForm (codes "u 0")

abbrev pub seventeen_digits : Type 0
seventeen_digits = HasNoForm (codes "u 0 00000000000001000")

abbrev pub digit_g : Type 0
digit_g = HasNoForm (codes "u 0 g")

abbrev pub prefixed : Type 0
prefixed = HasNoForm (codes "u 0 0x1000")

abbrev pub signed : Type 0
signed = HasNoForm (codes "u 0 +1000")

abbrev pub hart_too_great : Type 0
hart_too_great = HasNoForm (codes "u 12 1000")

abbrev pub hart_in_hexadecimal : Type 0
hart_in_hexadecimal = HasNoForm (codes "u a 1000")

abbrev pub unaligned_word : Type 0
unaligned_word = HasNoForm (codes "w 0 80000004 1")

abbrev pub satp_of_mode_1 : Type 0
satp_of_mode_1 = HasNoForm (codes "s 0 1000a00000080000")

abbrev pub satp_of_the_other_scheme : Type 0
satp_of_the_other_scheme = HasNoForm (codes "s 0 9000a00000080000")

abbrev pub wide_asid : Type 0
wide_asid = HasNoForm (codes "r 0 2 3 1000 1000 10000")

abbrev pub dash_for_a_token : Type 0
dash_for_a_token = HasNoForm (codes "e 0 -")

abbrev pub unknown_letter : Type 0
unknown_letter = HasNoForm (codes "x 0 1000")

abbrev pub two_letters : Type 0
two_letters = HasNoForm (codes "uu 0 1000")

abbrev pub mark_with_no_space : Type 0
mark_with_no_space = HasNoForm (codes "m")

abbrev pub note_alone : Type 0
note_alone = HasNoForm (codes " @note")
