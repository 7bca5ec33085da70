-- Worked stories: what is told of each record, a whole story, and how a line of a trace is explained,
-- by hand.
use Rattle.std.specs.Prelude.{◌≡◌, ℕ, Bool, true, false, codes, List, [], ◌∷◌, ◌++◌, Some, None, Result, Ok, Err}
use Rattle.pte.specs.declared.scheme.Scheme.TheVariants.{Sv39, Sv48}
use Rattle.pte.specs.Entry.{table_word}
use Rattle.tlb.specs.declared.store.Entry.{Entry}
use Rattle.watch.specs.declared.trace.Record.{Record}
use Rattle.watch.specs.declared.trace.Record.TheVariants.{Satp, Store, Use}
use Rattle.watch.specs.declared.trace.Verdict.TheVariants.{Claimed}
use Rattle.watch.specs.WorkedTraces.{asks, first_space, flushes, given_back, given_out, learns, leaf_cleared, leaf_stored, page_fence, returns_from_flush, writable}
use Rattle.watch_causes.specs.declared.reason.Reason.TheVariants.{OtherHarts, OtherSpaces, OtherPages, NotDone}
use Rattle.watch_causes.specs.declared.role.Role.{Role}
use Rattle.watch_causes.specs.declared.role.Role.TheVariants.{Maps, Enters, Leaves, Drops, AsksEarly, MakesStale, Misses, BeginsFlush, EndsFlush, GivesBack, GivesOut, Uses, Other}
use Rattle.watch_causes.specs.declared.stories.Part.{Part}
use Rattle.watch_causes.specs.Stories.{told}
use Rattle.watch_causes.specs.WorkedReasons.{fence_of_next}
use Rattle.watch_causes.specs.WorkedStories.{claimed, is_fourth_or_ninth, told_but}
use Rattle.watch_engine.specs.declared.warning.Warning.{Warning}
use Rattle.watch_report.specs.declared.fault.ReportFault.{ReportFault}
use Rattle.watch_report.specs.declared.fault.ReportFault.TheVariants.{Line, Output, Unreadable}
use Rattle.watch_report.specs.declared.header.Header.{Header}
use Rattle.watch_report.specs.declared.line_fault.LineReason.TheVariants.{NoHart, NoTrace}
use Rattle.watch_report.specs.declared.warning.Trigger.TheVariants.{ClaimedSince}
use Rattle.watch_report.specs.Explaining.{Explains, asked_of}
use Rattle.watch_report.specs.Filters.{no_filter}
use Rattle.watch_report.specs.LineFaults.{fault_at}
use Rattle.watch_report.specs.StoryTexts.{header_text, role_text, story_text}
use Rattle.watch_report.specs.TraceText.{Noted, body_of, header_of, records_of, trace_of}
use Rattle.watch_report.specs.WorkedReports.{hart_too_great, used_once}
use Rattle.watch_report.specs.WorkedWarnings.{kernel_page, user_page}

-- ---- each role

-- hart 11 may hold the page
abbrev pub held : Entry → Warning
held entry =
    record { verdict = Claimed; hart = 11; root = 0x80000; entry = entry; stale_since = 6 }

abbrev pub Says : Record → Role → List ℕ → Type 0
Says made role text = role_text (held user_page) made role ≡ text

abbrev pub word_stored : Type 0
word_stored = Says (leaf_stored 0x100 writable) Maps (codes "a word on the way to the page")

abbrev pub hart_enters : Type 0
hart_enters = Says (Satp 11 first_space) Enters (codes "hart 11 enters the address space")

abbrev pub hart_enters_any : Type 0
hart_enters_any =
    role_text (held kernel_page) (Satp 11 first_space) Enters
    ≡ codes "hart 11 enters an address space"

abbrev pub hart_leaves : Type 0
hart_leaves =
    Says (Satp 11 None) Leaves (codes "hart 11 leaves the address space, and may keep the page")

abbrev pub hart_fenced : Type 0
hart_fenced = Says (page_fence 11) Drops (codes "hart 11 fences the page")

abbrev pub hart_was_asked : Type 0
hart_was_asked =
    Says asks AsksEarly (codes "hart 11 is asked to fence the page, before it is stale")

abbrev pub unmapped : Type 0
unmapped = Says leaf_cleared MakesStale (codes "stale from here on")

abbrev pub other_hart_fenced : Type 0
other_hart_fenced = Says (page_fence 0) (Misses OtherHarts) (codes "a fence, not for hart 11")

abbrev pub other_hart_was_asked : Type 0
other_hart_was_asked = Says asks (Misses OtherHarts) (codes "a remote fence, not for hart 11")

abbrev pub other_space_fenced : Type 0
other_space_fenced = Says (page_fence 11) (Misses OtherSpaces) (codes "a fence, not for asid a")

abbrev pub fenced_by_asid : Type 0
fenced_by_asid =
    role_text (held kernel_page) (page_fence 11) (Misses OtherSpaces)
    ≡ codes "a fence by ASID, and the page is global"

abbrev pub other_page_fenced : Type 0
other_page_fenced =
    Says (fence_of_next 11) (Misses OtherPages) (codes "a fence, not for page 1000")

abbrev pub not_done : Type 0
not_done =
    Says asks (Misses NotDone) (codes "a remote fence for the page, not known to be done")

abbrev pub flush_begins : Type 0
flush_begins = Says flushes BeginsFlush (codes "a flush begins")

abbrev pub flush_returns : Type 0
flush_returns = Says returns_from_flush EndsFlush (codes "the flush returns")

abbrev pub frame_comes_back : Type 0
frame_comes_back = Says (given_back 0x100) GivesBack (codes "frames are given back")

abbrev pub frame_goes_out : Type 0
frame_goes_out = Says (given_out 0x100) GivesOut (codes "frames are given out")

abbrev pub page_is_used : Type 0
page_is_used = Says (Use 11 0x1ABC) Uses (codes "hart 11 uses 1abc")

abbrev pub other : Type 0
other = Says learns Other (codes "another record")

-- ---- a whole one: hart 0 unmaps the page, and flushes with a fence of its own alone

abbrev pub two_harts : Header
two_harts = record { harts = 2; scheme = Sv39 }

abbrev pub on_line : ℕ → Record → List ℕ → Noted
on_line line made by = record { made = made; by = by; line = line }

-- up to the return of the flush; line 7 is no record
abbrev pub before : List Noted
before =
    on_line 11 (fence_of_next 1) [] ∷ on_line 10 (page_fence 0) []
    ∷ on_line 9 flushes (codes "flush_page") ∷ on_line 8 leaf_cleared (codes "unmap")
    ∷ on_line 6 (Satp 1 first_space) [] ∷ on_line 5 (Satp 0 first_space) []
    ∷ on_line 4 (leaf_stored 0x100 writable) (codes "map")
    ∷ on_line 3 (Store 0 0x80001000 (table_word 0x80002 false)) []
    ∷ on_line 2 (Store 0 0x80000000 (table_word 0x80001 false)) [] ∷ []

abbrev pub newest : Noted
newest = on_line 12 returns_from_flush (codes "flush_page")

-- of hart 0's satp nothing is told
abbrev pub parts : List Part
parts = told_but is_fourth_or_ninth

abbrev pub text_told : List ℕ
text_told = story_text (codes "unmap.trace") two_harts (ClaimedSince 9) newest before claimed parts

abbrev pub whole_text : Type 0
whole_text =
    text_told
    ≡ codes "watch 1 2 sv39\n"
    ++ codes "# unmap.trace:12: claim hart 1 may hold page 1000+1000 -> 100 rw-u- asid 1 root 80000, stale since line 8 by unmap; claimed clean since line 9 by flush_page\n"
    ++ codes "# unmap.trace:2: a word on the way to the page\nw 0 80000000 20000401\n"
    ++ codes "# unmap.trace:3: a word on the way to the page\nw 0 80001000 20000801\n"
    ++ codes "# unmap.trace:4: a word on the way to the page\nw 0 80002008 400d7 @map\n"
    ++ codes "# unmap.trace:6: hart 1 enters the address space\ns 1 8000100000080000\n"
    ++ codes "# unmap.trace:8: stale from here on\nw 0 80002008 0 @unmap\n"
    ++ codes "# unmap.trace:9: a flush begins\nc 0 9 80000 1000 1000 @flush_page\n"
    ++ codes "# unmap.trace:10: a fence, not for hart 1\nf 0 1000 1\n"
    ++ codes "# unmap.trace:11: a fence, not for page 1000\nf 1 2000 1\n"
    ++ codes "# unmap.trace:12: the flush returns\nd 0 9 @flush_page\n"

-- it reads as a trace of these records
abbrev pub header_is_read : Type 0
header_is_read = header_of text_told ≡ Ok two_harts

abbrev pub records_are_read : Type 0
records_are_read = trace_of (records_of two_harts (body_of text_told)) ≡ told parts

abbrev pub sv48_header : Type 0
sv48_header = header_text (record { harts = 64; scheme = Sv48 }) ≡ codes "watch 1 64 sv48"

-- ---- lines that are explained

-- a line of the text is explained so, and this is written
unfoldable pub Writes : ℕ → List ℕ → Result Bool ReportFault → List ℕ → Type 0
Writes line text result written =
    Explains (asked_of (codes "a.trace") line no_filter) text result (Some []) (Some written)

-- a mark, a comment, an empty line, a record without a verdict, and what is none
abbrev pub no_story : Type 0
no_story =
    (Writes 2 used_once (Ok false) []) × (Writes 3 used_once (Ok false) [])
    × (Writes 4 used_once (Ok false) []) × (Writes 5 used_once (Ok false) [])
    × (Writes 1 used_once (Ok false) []) × (Writes 0 used_once (Ok false) [])
    × (Writes 7 used_once (Ok false) [])

-- the first line without a form, up to the one that is asked for
abbrev pub at_a_fault : Type 0
at_a_fault = Writes 3 hart_too_great (Err (Line 3 (fault_at 3 (NoHart 2 1)) false)) []

abbrev pub behind_a_fault : Type 0
behind_a_fault = Writes 4 hart_too_great (Err (Line 3 (fault_at 3 (NoHart 2 1)) false)) []

abbrev pub before_a_fault : Type 0
before_a_fault = Writes 2 hart_too_great (Ok false) []

abbrev pub no_header : Type 0
no_header = Writes 2 (codes "u 0 1000\n") (Err (Line 1 (fault_at 1 NoTrace) false)) []

-- what is not so: a story where there is no verdict, a fault behind the line, none at it, or something
-- that is written without a story
abbrev pub story_of_none : Type 0
story_of_none = ¬ Writes 3 used_once (Ok true) (codes "watch 1 2 sv39\n")

abbrev pub fault_behind : Type 0
fault_behind = ¬ Writes 2 hart_too_great (Err (Line 3 (fault_at 3 (NoHart 2 1)) false)) []

abbrev pub no_fault : Type 0
no_fault = ¬ Writes 3 hart_too_great (Ok false) []

abbrev pub written_without_a_story : Type 0
written_without_a_story = ¬ Writes 3 used_once (Ok false) (codes "watch 1 2 sv39\n")

abbrev pub written_unread : Type 0
written_unread = ¬ Writes 5 used_once (Err Unreadable) (codes "watch 1 2 sv39\n")

abbrev pub cut_off_without_a_story : Type 0
cut_off_without_a_story = ¬ Writes 3 used_once (Err Output) (codes "wat")
