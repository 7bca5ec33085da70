-- The worked reasons, computed.
use Rattle.std.proofs.Common.{refl}
use Rattle.watch_causes.specs.WorkedReasons as worked

pub asked_for_nothing : worked.asked_for_nothing
asked_for_nothing = refl

pub fenced_before : worked.fenced_before
fenced_before = refl

pub third_fenced : worked.third_fenced
third_fenced = refl

pub fenced_itself : worked.fenced_itself
fenced_itself = refl

pub asked_third : worked.asked_third
asked_third = refl

pub asked_for_other_space : worked.asked_for_other_space
asked_for_other_space = refl

pub asked_third_for_all : worked.asked_third_for_all
asked_third_for_all = refl

pub asked_for_other_page : worked.asked_for_other_page
asked_for_other_page = refl

pub asked_for_either : worked.asked_for_either
asked_for_either = refl

pub asked_for_page : worked.asked_for_page
asked_for_page = refl

pub asked_for_both : worked.asked_for_both
asked_for_both = refl

pub holder_fenced_next : worked.holder_fenced_next
holder_fenced_next = refl

pub holder_fenced_other : worked.holder_fenced_other
holder_fenced_other = refl

pub holder_fenced_unasked : worked.holder_fenced_unasked
holder_fenced_unasked = refl

pub flusher_fenced_next : worked.flusher_fenced_next
flusher_fenced_next = refl

pub flusher_fenced_other : worked.flusher_fenced_other
flusher_fenced_other = refl

pub flusher_asked_others : worked.flusher_asked_others
flusher_asked_others = refl

pub other_asked_flusher : worked.other_asked_flusher
other_asked_flusher = refl

pub global_asked_with_asid : worked.global_asked_with_asid
global_asked_with_asid = refl

pub global_asked_without_asid : worked.global_asked_without_asid
global_asked_without_asid = refl

pub begun_again : worked.begun_again
begun_again = refl

pub begun_beside : worked.begun_beside
begun_beside = refl

pub freed_with_no_flush : worked.freed_with_no_flush
freed_with_no_flush = refl

pub freed_after_early_flush : worked.freed_after_early_flush
freed_after_early_flush = refl

pub freed_after_flush : worked.freed_after_flush
freed_after_flush = refl

pub freed_after_flush_of_next : worked.freed_after_flush_of_next
freed_after_flush_of_next = refl

pub freed_after_flush_of_other_root : worked.freed_after_flush_of_other_root
freed_after_flush_of_other_root = refl

pub global_freed_after_flush_of_root : worked.global_freed_after_flush_of_root
global_freed_after_flush_of_root = refl

pub global_freed_after_flush : worked.global_freed_after_flush
global_freed_after_flush = refl

pub freed_after_two_flushes : worked.freed_after_two_flushes
freed_after_two_flushes = refl

pub freed_after_flush_beside : worked.freed_after_flush_beside
freed_after_flush_beside = refl

pub reused_within_flush : worked.reused_within_flush
reused_within_flush = refl

pub ruleset worked_claims = (asked_for_nothing, fenced_before, third_fenced, fenced_itself, asked_third, asked_for_other_space, asked_third_for_all, asked_for_other_page, asked_for_either, asked_for_page, asked_for_both)

pub ruleset worked_fences = (holder_fenced_next, holder_fenced_other, holder_fenced_unasked, flusher_fenced_next, flusher_fenced_other, flusher_asked_others, other_asked_flusher, global_asked_with_asid, global_asked_without_asid, begun_again, begun_beside)

pub ruleset worked_frees = (freed_with_no_flush, freed_after_early_flush, freed_after_flush, freed_after_flush_of_next, freed_after_flush_of_other_root, global_freed_after_flush_of_root, global_freed_after_flush, freed_after_two_flushes, freed_after_flush_beside, reused_within_flush)
