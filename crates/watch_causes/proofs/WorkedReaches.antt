-- The worked reaches, computed.
use Rattle.std.proofs.Common.{refl}
use Rattle.watch_causes.specs.WorkedReaches as worked

pub is_there_at_first : worked.is_there_at_first
is_there_at_first = refl

pub leaves_behind_it : worked.leaves_behind_it
leaves_behind_it = refl

pub stays_elsewhere : worked.stays_elsewhere
stays_elsewhere = refl

pub stays_in_bare : worked.stays_in_bare
stays_in_bare = refl

pub is_back : worked.is_back
is_back = refl

pub is_back_and_leaves : worked.is_back_and_leaves
is_back_and_leaves = refl

pub is_back_by_asid : worked.is_back_by_asid
is_back_by_asid = refl

pub other_hart_comes : worked.other_hart_comes
other_hart_comes = refl

pub fenced_first : worked.fenced_first
fenced_first = refl

pub fenced_last : worked.fenced_last
fenced_last = refl

pub other_asid_fenced : worked.other_asid_fenced
other_asid_fenced = refl

pub next_page_fenced : worked.next_page_fenced
next_page_fenced = refl

pub other_hart_fenced : worked.other_hart_fenced
other_hart_fenced = refl

pub is_used : worked.is_used
is_used = refl

pub other_is_used : worked.other_is_used
other_is_used = refl

pub asked_early : worked.asked_early
asked_early = refl

pub asked_between : worked.asked_between
asked_between = refl

pub asked_late : worked.asked_late
asked_late = refl

pub not_learnt : worked.not_learnt
not_learnt = refl

pub other_learnt : worked.other_learnt
other_learnt = refl

pub other_hart_asked : worked.other_hart_asked
other_hart_asked = refl

pub other_asid_asked : worked.other_asid_asked
other_asid_asked = refl

pub next_page_asked : worked.next_page_asked
next_page_asked = refl

pub asked_again : worked.asked_again
asked_again = refl

pub asked_another : worked.asked_another
asked_another = refl

pub global_is_everywhere : worked.global_is_everywhere
global_is_everywhere = refl

pub bare_has_nothing : worked.bare_has_nothing
bare_has_nothing = refl

pub global_comes_back : worked.global_comes_back
global_comes_back = refl

pub global_is_fenced : worked.global_is_fenced
global_is_fenced = refl

pub fenced_nobody : worked.fenced_nobody
fenced_nobody = refl

pub fenced_itself : worked.fenced_itself
fenced_itself = refl

pub fenced_another : worked.fenced_another
fenced_another = refl

pub fenced_several : worked.fenced_several
fenced_several = refl

pub fenced_before : worked.fenced_before
fenced_before = refl

pub holder_fenced : worked.holder_fenced
holder_fenced = refl

pub holder_fenced_unasked : worked.holder_fenced_unasked
holder_fenced_unasked = refl

pub last_hart_fenced : worked.last_hart_fenced
last_hart_fenced = refl

pub hart_without_bit : worked.hart_without_bit
hart_without_bit = refl

pub freed_with_no_flush : worked.freed_with_no_flush
freed_with_no_flush = refl

pub freed_within_flush : worked.freed_within_flush
freed_within_flush = refl

pub begin_in_order : worked.begin_in_order
begin_in_order = refl

pub ruleset worked_comebacks = (is_there_at_first, leaves_behind_it, stays_elsewhere, stays_in_bare, is_back, is_back_and_leaves, is_back_by_asid, other_hart_comes, fenced_first, fenced_last, other_asid_fenced, next_page_fenced, other_hart_fenced, is_used, other_is_used)

pub ruleset worked_remotes = (asked_early, asked_between, asked_late, not_learnt, other_learnt, other_hart_asked, other_asid_asked, next_page_asked, asked_again, asked_another, global_is_everywhere, bare_has_nothing, global_comes_back, global_is_fenced)

pub ruleset worked_begins = (fenced_nobody, fenced_itself, fenced_another, fenced_several, fenced_before, holder_fenced, holder_fenced_unasked, last_hart_fenced, hart_without_bit, freed_with_no_flush, freed_within_flush, begin_in_order)
