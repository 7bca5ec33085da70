-- Worked lists of what is known: what was worked out by hand of a few lines.
use Rattle.std.specs.Prelude.{ℕ, Bool, true, false, ◌≡◌, codes, List, [], ◌∷◌, ◌++◌, Some, None, Ok, Err}
use Rattle.watch.specs.declared.trace.Verdict.{Verdict}
use Rattle.watch.specs.declared.trace.Verdict.TheVariants.{Free, Reuse, Claimed, Used}
use Rattle.watch_causes.specs.declared.reach.Reach.{Reach}
use Rattle.watch_causes.specs.declared.reach.Reach.TheVariants.{Used as UsedReach, Reachable, NotReached}
use Rattle.watch_causes.specs.declared.reason.Reason.{Reason}
use Rattle.watch_causes.specs.declared.reason.Reason.TheVariants.{NoFlush, NoFence, OtherHarts, OtherSpaces, OtherPages, NotDone}
use Rattle.watch_causes.specs.KnownFindings.{KnownEntry}
use Rattle.watch_report.specs.declared.known_fault.KnownReason.{KnownReason}
use Rattle.watch_report.specs.declared.known_fault.KnownReason.TheVariants.{CarriageReturn, OtherByte, NoSpace, Space, NoOwner, NoVerdict, NoReason, NoAddress, NoSize, Excess}
use Rattle.watch_report.specs.KnownFaults.{known_fault_text}
use Rattle.watch_report.specs.KnownTexts.{fault_at, known_in_text}
use Rattle.watch_report.specs.Records.{range_at}

abbrev pub Reads : List ℕ → List KnownEntry → Type 0
Reads text entries = known_in_text text ≡ Ok entries

-- at this line, for this reason
abbrev pub IsRefused : List ℕ → ℕ → KnownReason → Type 0
IsRefused text line reason = known_in_text text ≡ Err (fault_at line reason)

-- an entry on a line without a test but the owner's
abbrev pub any_of : ℕ → Bool → KnownEntry
any_of line global =
    record {
      line = line;
      global = global;
      first = None;
      reason = None;
      reach = None;
      among = λ f. true;
      range = None;
      note = [];
    }

abbrev pub begun_by : Verdict → KnownEntry
begun_by first = record (any_of 1 false) { first = Some first }

abbrev pub for_reason : Reason → KnownEntry
for_reason reason = record (any_of 1 true) { reason = Some reason }

-- ---- entries

abbrev pub no_line : Type 0
no_line = Reads [] []

abbrev pub silent_lines : Type 0
silent_lines = Reads (codes "# user - -\n\n#\n") []

abbrev pub any_of_users : Type 0
any_of_users = Reads (codes "user - -\n") (any_of 1 false ∷ [])

abbrev pub without_a_feed : Type 0
without_a_feed = Reads (codes "kernel - -") (any_of 1 true ∷ [])

abbrev pub later_lines : Type 0
later_lines =
    Reads (codes "# by design\n\nuser - -\nkernel - -\n") (any_of 3 false ∷ any_of 4 true ∷ [])

abbrev pub first_free : Type 0
first_free = Reads (codes "user free -") (begun_by Free ∷ [])

abbrev pub first_reuse : Type 0
first_reuse = Reads (codes "user reuse -") (begun_by Reuse ∷ [])

abbrev pub first_claim : Type 0
first_claim = Reads (codes "user claim -") (begun_by Claimed ∷ [])

abbrev pub first_use : Type 0
first_use = Reads (codes "user use -") (begun_by Used ∷ [])

abbrev pub no_flush : Type 0
no_flush = Reads (codes "kernel - no-flush") (for_reason NoFlush ∷ [])

abbrev pub no_fence : Type 0
no_fence = Reads (codes "kernel - no-fence") (for_reason NoFence ∷ [])

abbrev pub other_hart : Type 0
other_hart = Reads (codes "kernel - other-hart") (for_reason OtherHarts ∷ [])

abbrev pub other_asid : Type 0
other_asid = Reads (codes "kernel - other-asid") (for_reason OtherSpaces ∷ [])

abbrev pub other_page : Type 0
other_page = Reads (codes "kernel - other-page") (for_reason OtherPages ∷ [])

abbrev pub not_done : Type 0
not_done = Reads (codes "kernel - not-done") (for_reason NotDone ∷ [])

abbrev pub of_addresses : Type 0
of_addresses =
    Reads (codes "kernel - - ffffffc800000000 4000000000")
    (record (any_of 1 true) { range = Some (range_at 0xFFFFFFC800000000 0x4000000000) } ∷ [])

abbrev pub with_a_note : Type 0
with_a_note = Reads (codes "user - - @unmap all") (record (any_of 1 false) { note = codes "unmap all" } ∷ [])

abbrev pub note_after_a_hash : Type 0
note_after_a_hash = Reads (codes "user - - #unmap") (record (any_of 1 false) { note = codes "unmap" } ∷ [])

abbrev pub note_in_a_note : Type 0
note_in_a_note = Reads (codes "user - - @a @b") (record (any_of 1 false) { note = codes "a @b" } ∷ [])

abbrev pub empty_note : Type 0
empty_note = Reads (codes "user - - @") (any_of 1 false ∷ [])

-- a note may have any byte
abbrev pub note_of_any_bytes : Type 0
note_of_any_bytes =
    Reads (codes "user - - @" ++ 9 ∷ 0xC3 ∷ 0xA9 ∷ []) (record (any_of 1 false) { note = 9 ∷ 0xC3 ∷ 0xA9 ∷ [] } ∷ [])

-- where the reach of no finding is known, none passes
abbrev pub of_reach : Reach → KnownEntry
of_reach reach = record (any_of 1 false) { reach = Some reach; among = λ f. false }

abbrev pub used_alone : Type 0
used_alone = Reads (codes "user - - used") (of_reach UsedReach ∷ [])

abbrev pub reachable_alone : Type 0
reachable_alone = Reads (codes "user - - reachable") (of_reach Reachable ∷ [])

abbrev pub reach_before_addresses : Type 0
reach_before_addresses =
    Reads (codes "user - - not-reached 1000 20 @x")
    (record (of_reach NotReached) { range = Some (range_at 0x1000 0x20); note = codes "x" } ∷ [])

abbrev pub with_all : Type 0
with_all =
    Reads (codes "kernel free no-flush 1000 20 @vfree")
    (record {
      line = 1;
      global = true;
      first = Some Free;
      reason = Some NoFlush;
      reach = None;
      among = λ f. true;
      range = Some (range_at 0x1000 0x20);
      note = codes "vfree";
    } ∷ [])

-- ---- faults

abbrev pub other_reach : Type 0
other_reach = IsRefused (codes "user - - unreached") 1 NoAddress

abbrev pub two_reaches : Type 0
two_reaches = IsRefused (codes "user - - used reachable") 1 NoAddress

abbrev pub reach_behind_addresses : Type 0
reach_behind_addresses = IsRefused (codes "user - - 1000 20 used") 1 Excess

abbrev pub other_owner : Type 0
other_owner = IsRefused (codes "User - -") 1 NoOwner

abbrev pub owner_alone : Type 0
owner_alone = IsRefused (codes "user") 1 NoVerdict

abbrev pub other_verdict : Type 0
other_verdict = IsRefused (codes "user freed -") 1 NoVerdict

abbrev pub verdict_with_its_owner : Type 0
verdict_with_its_owner = IsRefused (codes "kernel kernel-free -") 1 NoVerdict

abbrev pub verdict_alone : Type 0
verdict_alone = IsRefused (codes "user free") 1 NoReason

abbrev pub other_reason : Type 0
other_reason = IsRefused (codes "user free no_flush") 1 NoReason

abbrev pub prefixed_address : Type 0
prefixed_address = IsRefused (codes "user - - 0x1000 1000") 1 NoAddress

abbrev pub long_address : Type 0
long_address = IsRefused (codes "user - - 00000000000001000 1000") 1 NoAddress

abbrev pub start_alone : Type 0
start_alone = IsRefused (codes "user - - 1000") 1 NoSize

abbrev pub start_before_a_note : Type 0
start_before_a_note = IsRefused (codes "user - - 1000 @unmap") 1 NoSize

abbrev pub other_size : Type 0
other_size = IsRefused (codes "user - - 1000 all") 1 NoSize

abbrev pub word_too_many : Type 0
word_too_many = IsRefused (codes "user - - 1000 1000 1000") 1 Excess

abbrev pub line_of_windows : Type 0
line_of_windows = IsRefused (codes "user - -" ++ 13 ∷ 10 ∷ []) 1 CarriageReturn

abbrev pub note_of_windows : Type 0
note_of_windows = IsRefused (codes "user - - @unmap" ++ 13 ∷ 10 ∷ []) 1 CarriageReturn

abbrev pub empty_line_of_windows : Type 0
empty_line_of_windows = IsRefused (13 ∷ 10 ∷ []) 1 CarriageReturn

abbrev pub return_in_a_line : Type 0
return_in_a_line = IsRefused (codes "user " ++ 13 ∷ codes "- -") 1 (OtherByte 13)

abbrev pub tab_for_a_space : Type 0
tab_for_a_space = IsRefused (codes "user\t- -") 1 (OtherByte 9)

abbrev pub byte_behind_ascii : Type 0
byte_behind_ascii = IsRefused (codes "user - -" ++ 0xC2 ∷ 0xA0 ∷ []) 1 (OtherByte 0xC2)

abbrev pub no_space_before_a_note : Type 0
no_space_before_a_note = IsRefused (codes "user - -@unmap") 1 NoSpace

abbrev pub two_spaces : Type 0
two_spaces = IsRefused (codes "user  - -") 1 Space

abbrev pub space_at_the_end : Type 0
space_at_the_end = IsRefused (codes "user - - ") 1 Space

abbrev pub space_in_front : Type 0
space_in_front = IsRefused (codes " user - -") 1 Space

abbrev pub two_spaces_before_a_note : Type 0
two_spaces_before_a_note = IsRefused (codes "user - -  @unmap") 1 Space

-- the first of two, behind a line that is right
abbrev pub first_of_two : Type 0
first_of_two = IsRefused (codes "user - -\nuser\nroot - -\n") 2 NoVerdict

-- ---- what is printed of a fault

abbrev pub IsTold : ℕ → KnownReason → List ℕ → Type 0
IsTold line reason text = known_fault_text (fault_at line reason) ≡ text

abbrev pub told_return : Type 0
told_return = IsTold 1 CarriageReturn (codes "1: a carriage return: lines end in a line feed alone")

abbrev pub told_byte : Type 0
told_byte = IsTold 2 (OtherByte 0xC2) (codes "2: byte c2: the words of an entry are printable ASCII")

abbrev pub told_note : Type 0
told_note = IsTold 3 NoSpace (codes "3: no space before the note")

abbrev pub told_space : Type 0
told_space =
    IsTold 4 Space (codes "4: a space too many: one stands between two fields, and none at the ends")

abbrev pub told_owner : Type 0
told_owner = IsTold 5 NoOwner (codes "5: no owner: an entry begins with user or kernel")

abbrev pub told_verdict : Type 0
told_verdict =
    IsTold 6 NoVerdict
    (codes "6: no first verdict behind the owner: free, reuse, claim or use, or - for any")

abbrev pub told_reason : Type 0
told_reason =
    IsTold 7 NoReason
    (codes "7: no reason behind the verdict: no-flush, no-fence, other-hart, other-asid, other-page or not-done, or - for any")

abbrev pub told_address : Type 0
told_address = IsTold 8 NoAddress (codes "8: no START, a hexadecimal number, and no reach: used, reachable or not-reached")

abbrev pub told_size : Type 0
told_size = IsTold 9 NoSize (codes "9: no SIZE behind START, a hexadecimal number")

abbrev pub told_excess : Type 0
told_excess = IsTold 10 Excess (codes "10: a word too many: OWNER FIRST REASON [REACH] [START SIZE] [@NOTE]")
