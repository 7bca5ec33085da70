-- The worked stories, computed.
use Rattle.std.proofs.Common.{◌≡◌, ℕ, List, length, Option, Some, None, inl, refl, sym, ap, arith}
use Rattle.std.specs.Fmt.{digits}
use Rattle.std.specs.Option.{is_none}
use Rattle.std.proofs.lemmas.Bool.{true≢false}
use Rattle.watch_report.specs.WorkedStories as rows
use Rattle.watch_report.proofs.WorkedReports.{gives_none}

pub word_stored : rows.word_stored
word_stored = refl

pub hart_enters : rows.hart_enters
unfolding digits
hart_enters = refl

pub hart_enters_any : rows.hart_enters_any
unfolding digits
hart_enters_any = refl

pub hart_leaves : rows.hart_leaves
unfolding digits
hart_leaves = refl

pub hart_fenced : rows.hart_fenced
unfolding digits
hart_fenced = refl

pub hart_was_asked : rows.hart_was_asked
unfolding digits
hart_was_asked = refl

pub unmapped : rows.unmapped
unmapped = refl

pub other_hart_fenced : rows.other_hart_fenced
unfolding digits
other_hart_fenced = refl

pub other_hart_was_asked : rows.other_hart_was_asked
unfolding digits
other_hart_was_asked = refl

pub other_space_fenced : rows.other_space_fenced
unfolding digits
other_space_fenced = refl

pub fenced_by_asid : rows.fenced_by_asid
fenced_by_asid = refl

pub other_page_fenced : rows.other_page_fenced
unfolding digits
other_page_fenced = refl

pub not_done : rows.not_done
not_done = refl

pub flush_begins : rows.flush_begins
flush_begins = refl

pub flush_returns : rows.flush_returns
flush_returns = refl

pub frame_comes_back : rows.frame_comes_back
frame_comes_back = refl

pub frame_goes_out : rows.frame_goes_out
frame_goes_out = refl

pub page_is_used : rows.page_is_used
unfolding digits
page_is_used = refl

pub other : rows.other
other = refl

pub ruleset roles = (word_stored, hart_enters, hart_enters_any, hart_leaves, hart_fenced, hart_was_asked, unmapped, other_hart_fenced, other_hart_was_asked, other_space_fenced, fenced_by_asid, other_page_fenced, not_done, flush_begins, flush_returns, frame_comes_back, frame_goes_out, page_is_used, other)

-- ---- a whole one

pub whole_text : rows.whole_text
unfolding digits
whole_text = refl

pub header_is_read : rows.header_is_read
unfolding digits
header_is_read = refl

pub records_are_read : rows.records_are_read
unfolding digits
records_are_read = refl

pub sv48_header : rows.sv48_header
unfolding digits
sv48_header = refl

pub ruleset whole = (whole_text, header_is_read, records_are_read, sv48_header)

-- ---- lines that are explained

pub no_story : rows.no_story
unfolding rows.Writes
no_story = (
  (refl, λ has. has, refl),
  (refl, λ has. has, refl),
  (refl, λ has. has, refl),
  (refl, λ has. gives_none _ 1 0x1000 (inl has.1), refl),
  (refl, λ has. has, refl),
  (refl, λ has. has, refl),
  (refl, λ has. omega (arith, has.0), refl),
)

pub at_a_fault : rows.at_a_fault
unfolding rows.Writes
at_a_fault = (refl, refl, refl, refl)

pub behind_a_fault : rows.behind_a_fault
unfolding rows.Writes
behind_a_fault = (refl, refl, refl, refl)

pub before_a_fault : rows.before_a_fault
unfolding rows.Writes
before_a_fault = (refl, λ has. gives_none _ 0 0x1000 (inl has.1), refl)

pub no_header : rows.no_header
unfolding rows.Writes
no_header = (refl, refl, refl, refl)

pub ruleset explained = (no_story, at_a_fault, behind_a_fault, before_a_fault, no_header)

-- ---- what is not so

pub story_of_none : rows.story_of_none
unfolding rows.Writes
story_of_none is = is.1.1

pub fault_behind : rows.fault_behind
unfolding rows.Writes
fault_behind is = true≢false (ap is_none is.0)

pub no_fault : rows.no_fault
unfolding rows.Writes
no_fault is = true≢false (sym (ap is_none is.0))

abbrev length_in : Option (List ℕ) → ℕ
length_in None = 0
length_in (Some text) = length text

pub written_without_a_story : rows.written_without_a_story
unfolding rows.Writes
written_without_a_story is = let same : 15 ≡ 0 = ap length_in is.2 in omega (arith, same)

pub written_unread : rows.written_unread
unfolding rows.Writes
written_unread is = let same : 15 ≡ 0 = ap length_in is in omega (arith, same)

pub cut_off_without_a_story : rows.cut_off_without_a_story
unfolding rows.Writes
cut_off_without_a_story is = is.1.1

pub ruleset refused = (story_of_none, fault_behind, no_fault, written_without_a_story, written_unread, cut_off_without_a_story)
