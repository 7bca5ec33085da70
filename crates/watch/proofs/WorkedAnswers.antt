-- What the worked traces give, computed record by record.
use Rattle.std.proofs.Common.{◌≡◌, ℕ, true, false, List, [], ◌∷◌, ◌++◌, refl, subst, inl, inr}
use Rattle.std.specs.Prelude.{◌==◌, ◌||◌, not}
use Rattle.std.proofs.lemmas.Bool.{eqb-true, or_cases}
use Rattle.std.proofs.lemmas.List.Sums.{AllPass-from_list_all}
use Rattle.pte.specs.declared.scheme.Scheme.TheVariants.{Sv39}
use Rattle.pte.specs.Entry.{kind_of}
use Rattle.watch.specs.declared.trace.Record.{Record}
use Rattle.watch.specs.declared.trace.Verdict.{Verdict}
use Rattle.watch.specs.Trace.{Trace, has_written_satp, stores}
use Rattle.watch.specs.Holding.{Translation}
use Rattle.watch.specs.Staleness.{HasFencedAll}
use Rattle.watch.specs.WorkedTraces.{IsHeldMapped, IsFirst, IsHeldStale, IsNotHeld, IsRepeated, IsSilent, Warns, trace_of}
use Rattle.watch.specs.WorkedTraces as worked
use Rattle.watch.proofs.Computed.{false_iff}
use Rattle.watch.specs.ComputedTraces.{has_verdict, is_held, is_new, is_stale}
use Rattle.watch.proofs.ComputedTraces.{held_iff, new_iff, stale_iff, verdict_iff}
use Rattle.watch.proofs.Gone.{none_stale}
use Rattle.watch.proofs.Judged.{verdict-stale}

warned : (records : List Record) (newest : Record) (verdict : Verdict) (hart : ℕ) (x : Translation) → has_verdict Sv39 verdict newest (trace_of records) hart x ≡ true → Warns records newest verdict hart x
unfolding Warns
warned records newest verdict hart x is = (verdict_iff Sv39 verdict newest (trace_of records) hart x).0 is

silent : (records : List Record) (newest : Record) (verdict : Verdict) (hart : ℕ) (x : Translation) → has_verdict Sv39 verdict newest (trace_of records) hart x ≡ false → IsSilent records newest verdict hart x
unfolding IsSilent
silent records newest verdict hart x none = false_iff _ _ (verdict_iff Sv39 verdict newest (trace_of records) hart x) none

not_held : (records : List Record) (hart : ℕ) (x : Translation) → is_held Sv39 (trace_of records) hart x ≡ false → IsNotHeld records hart x
unfolding IsNotHeld
not_held records hart x none = false_iff _ _ (held_iff Sv39 (trace_of records) hart x) none

stale : (records : List Record) (hart : ℕ) (x : Translation) → is_stale Sv39 (trace_of records) hart x ≡ true → IsHeldStale records hart x
unfolding IsHeldStale
stale records hart x is = (stale_iff Sv39 (trace_of records) hart x).0 is

mapped : (records : List Record) (hart : ℕ) (x : Translation) → is_held Sv39 (trace_of records) hart x ≡ true → is_stale Sv39 (trace_of records) hart x ≡ false → IsHeldMapped records hart x
unfolding IsHeldMapped
mapped records hart x is none = ((held_iff Sv39 (trace_of records) hart x).0 is, false_iff _ _ (stale_iff Sv39 (trace_of records) hart x) none)

first : (records : List Record) (verdict : Verdict) (hart : ℕ) (x : Translation) → is_new Sv39 verdict (trace_of records) hart x ≡ true → IsFirst records verdict hart x
unfolding IsFirst
first records verdict hart x is = (new_iff Sv39 verdict (trace_of records) hart x).0 is

repeated : (records : List Record) (verdict : Verdict) (hart : ℕ) (x : Translation) → is_new Sv39 verdict (trace_of records) hart x ≡ false → IsRepeated records verdict hart x
unfolding IsRepeated
repeated records verdict hart x none = false_iff _ _ (new_iff Sv39 verdict (trace_of records) hart x) none

-- both harts fenced all, and no other was in a space
abbrev fenced : Trace
fenced = trace_of (worked.mapped ++ worked.leaf_cleared ∷ worked.full_fence 0 ∷ worked.full_fence 1 ∷ [])

first_fenced : HasFencedAll fenced 0
first_fenced = record {
  later = worked.full_fence 1 ∷ [];
  earlier = trace_of (worked.mapped ++ worked.leaf_cleared ∷ []);
  split = refl;
  kept = AllPass-from_list_all (λ (r : Record). not (stores r)) (worked.full_fence 1 ∷ []) refl;
}

second_fenced : HasFencedAll fenced 1
second_fenced = record {
  later = [];
  earlier = trace_of (worked.mapped ++ worked.leaf_cleared ∷ worked.full_fence 0 ∷ []);
  split = refl;
  kept = AllPass-from_list_all (λ (r : Record). not (stores r)) [] refl;
}

each_fenced : (hart : ℕ) → has_written_satp fenced hart ≡ true → HasFencedAll fenced hart
each_fenced hart written =
    elim (or_cases (1 == hart) ((0 == hart) || false) written) [
      | inl second ↦ subst (HasFencedAll fenced) (eqb-true 1 hart second) second_fenced
      | inr more ↦
          elim (or_cases (0 == hart) false more) [
            | inl first ↦ subst (HasFencedAll fenced) (eqb-true 0 hart first) first_fenced
            | inr none ↦ cc
          ]
    ]

pub freed_after_full_fences : worked.freed_after_full_fences
unfolding IsSilent
freed_after_full_fences verdict hart x holds = none_stale Sv39 fenced each_fenced hart x (verdict-stale Sv39 verdict (worked.given_back 0x100) fenced hart x holds)

pub freed_before_fence : worked.freed_before_fence
unfolding kind_of
freed_before_fence = warned _ _ _ _ _ refl

pub freed_after_own_fence : worked.freed_after_own_fence
unfolding kind_of
freed_after_own_fence = silent _ _ _ _ _ refl

pub freed_after_fence : worked.freed_after_fence
unfolding kind_of
freed_after_fence = silent _ _ _ _ _ refl

pub other_frame_freed : worked.other_frame_freed
unfolding kind_of
other_frame_freed = silent _ _ _ _ _ refl

pub freed_after_fence_elsewhere : worked.freed_after_fence_elsewhere
unfolding kind_of
freed_after_fence_elsewhere = warned _ _ _ _ _ refl

pub freed_after_fence_of_other_asid : worked.freed_after_fence_of_other_asid
unfolding kind_of
freed_after_fence_of_other_asid = warned _ _ _ _ _ refl

pub freed_after_early_fence : worked.freed_after_early_fence
unfolding kind_of
freed_after_early_fence = warned _ _ _ _ _ refl

pub freed_after_remote_fence : worked.freed_after_remote_fence
unfolding kind_of
freed_after_remote_fence = silent _ _ _ _ _ refl

pub freed_within_remote_fence : worked.freed_within_remote_fence
unfolding kind_of
freed_within_remote_fence = warned _ _ _ _ _ refl

pub freed_after_early_remote_fence : worked.freed_after_early_remote_fence
unfolding kind_of
freed_after_early_remote_fence = warned _ _ _ _ _ refl

pub freed_after_fence_of_others : worked.freed_after_fence_of_others
unfolding kind_of
freed_after_fence_of_others = warned _ _ _ _ _ refl

pub freed_after_fill_within_fence : worked.freed_after_fill_within_fence
unfolding kind_of
freed_after_fill_within_fence = warned _ _ _ _ _ refl

pub freed_after_leaving : worked.freed_after_leaving
unfolding kind_of
freed_after_leaving = warned _ _ _ _ _ refl

pub freed_after_leaving_and_fence : worked.freed_after_leaving_and_fence
unfolding kind_of
freed_after_leaving_and_fence = silent _ _ _ _ _ refl

pub superpage_freed : worked.superpage_freed
unfolding kind_of
superpage_freed = warned _ _ _ _ _ refl

pub superpage_freed_after_fence : worked.superpage_freed_after_fence
unfolding kind_of
superpage_freed_after_fence = silent _ _ _ _ _ refl

pub global_freed_after_fence_with_asid : worked.global_freed_after_fence_with_asid
unfolding kind_of
global_freed_after_fence_with_asid = warned _ _ _ _ _ refl

pub global_freed_after_fence : worked.global_freed_after_fence
unfolding kind_of
global_freed_after_fence = silent _ _ _ _ _ refl

pub rights_lost : worked.rights_lost
unfolding kind_of
rights_lost = stale _ _ _ refl

pub rights_gained : worked.rights_gained
unfolding kind_of
rights_gained = mapped _ _ _ refl refl

pub unmapped : worked.unmapped
unfolding kind_of
unmapped = stale _ _ _ refl

pub mapped_again : worked.mapped_again
unfolding kind_of
mapped_again = mapped _ _ _ refl refl

pub mapped_elsewhere : worked.mapped_elsewhere
unfolding kind_of
mapped_elsewhere = stale _ _ _ refl

pub pointer_cleared : worked.pointer_cleared
unfolding kind_of
pointer_cleared = stale _ _ _ refl

pub table_given_out : worked.table_given_out
unfolding kind_of
table_given_out = stale _ _ _ refl

pub root_given_out : worked.root_given_out
unfolding kind_of
root_given_out = mapped _ _ _ refl refl

pub unmapped_after_root : worked.unmapped_after_root
unfolding kind_of
unmapped_after_root = stale _ _ _ refl

pub both_roots_given_out : worked.both_roots_given_out
unfolding kind_of
both_roots_given_out = stale _ _ _ refl

pub root_of_page_given_out : worked.root_of_page_given_out
unfolding kind_of
root_of_page_given_out = stale _ _ _ refl

pub used_root_given_out : worked.used_root_given_out
unfolding kind_of
used_root_given_out = mapped _ _ _ refl refl

pub filled_from_used_root : worked.filled_from_used_root
unfolding kind_of
filled_from_used_root = mapped _ _ _ refl refl

pub unused_root_given_out : worked.unused_root_given_out
unfolding kind_of
unused_root_given_out = stale _ _ _ refl

pub own_root_given_out : worked.own_root_given_out
unfolding kind_of
own_root_given_out = stale _ _ _ refl

pub unmapped_in_one_space : worked.unmapped_in_one_space
unfolding kind_of
unmapped_in_one_space = mapped _ _ _ refl refl

pub unmapped_in_both_spaces : worked.unmapped_in_both_spaces
unfolding kind_of
unmapped_in_both_spaces = stale _ _ _ refl

pub global_filled_in_other_space : worked.global_filled_in_other_space
unfolding kind_of
global_filled_in_other_space = mapped _ _ _ refl refl

pub global_dropped_in_other_space : worked.global_dropped_in_other_space
unfolding kind_of
global_dropped_in_other_space = not_held _ _ _ refl

pub global_of_no_root : worked.global_of_no_root
unfolding kind_of
global_of_no_root = mapped _ _ _ refl refl

pub page_of_no_root : worked.page_of_no_root
unfolding kind_of
page_of_no_root = not_held _ _ _ refl

pub global_after_fences_with_asid : worked.global_after_fences_with_asid
unfolding kind_of
global_after_fences_with_asid = mapped _ _ _ refl refl

pub page_after_fence_with_asid : worked.page_after_fence_with_asid
unfolding kind_of
page_after_fence_with_asid = not_held _ _ _ refl

pub entered_late : worked.entered_late
unfolding kind_of
entered_late = not_held _ _ _ refl

pub reused_before_fence : worked.reused_before_fence
unfolding kind_of
reused_before_fence = warned _ _ _ _ _ refl

pub reused_after_fence : worked.reused_after_fence
unfolding kind_of
reused_after_fence = silent _ _ _ _ _ refl

pub claimed_with_no_fence : worked.claimed_with_no_fence
unfolding kind_of
claimed_with_no_fence = warned _ _ _ _ _ refl

pub claimed_with_fence : worked.claimed_with_fence
unfolding kind_of
claimed_with_fence = silent _ _ _ _ _ refl

pub claimed_before_store : worked.claimed_before_store
unfolding kind_of
claimed_before_store = silent _ _ _ _ _ refl

pub claimed_of_other_root : worked.claimed_of_other_root
unfolding kind_of
claimed_of_other_root = silent _ _ _ _ _ refl

pub claimed_after_protection : worked.claimed_after_protection
unfolding kind_of
claimed_after_protection = warned _ _ _ _ _ refl

pub used_after_free : worked.used_after_free
unfolding kind_of
used_after_free = warned _ _ _ _ _ refl

pub used_after_claim : worked.used_after_claim
unfolding kind_of
used_after_claim = warned _ _ _ _ _ refl

pub used_after_fence : worked.used_after_fence
unfolding kind_of
used_after_fence = silent _ _ _ _ _ refl

pub used_before_free : worked.used_before_free
unfolding kind_of
used_before_free = silent _ _ _ _ _ refl

pub used_elsewhere : worked.used_elsewhere
unfolding kind_of
used_elsewhere = silent _ _ _ _ _ refl

pub global_used_elsewhere : worked.global_used_elsewhere
unfolding kind_of
global_used_elsewhere = warned _ _ _ _ _ refl

pub used_beside : worked.used_beside
unfolding kind_of
used_beside = silent _ _ _ _ _ refl

pub freed_for_the_first_time : worked.freed_for_the_first_time
unfolding kind_of
freed_for_the_first_time = first _ _ _ _ refl

pub freed_once_more : worked.freed_once_more
unfolding kind_of
freed_once_more = repeated _ _ _ _ refl

pub freed_after_mapped_again : worked.freed_after_mapped_again
unfolding kind_of
freed_after_mapped_again = first _ _ _ _ refl

pub ruleset worked_traces = (freed_for_the_first_time, freed_once_more, freed_after_mapped_again, freed_before_fence, freed_after_own_fence, freed_after_fence, freed_after_full_fences, other_frame_freed, freed_after_fence_elsewhere, freed_after_fence_of_other_asid, freed_after_early_fence, freed_after_remote_fence, freed_within_remote_fence, freed_after_early_remote_fence, freed_after_fence_of_others, freed_after_fill_within_fence, freed_after_leaving, freed_after_leaving_and_fence, superpage_freed, superpage_freed_after_fence, global_freed_after_fence_with_asid, global_freed_after_fence, rights_lost, rights_gained, unmapped, mapped_again, mapped_elsewhere, pointer_cleared, table_given_out, root_given_out, unmapped_after_root, both_roots_given_out, root_of_page_given_out, used_root_given_out, filled_from_used_root, unused_root_given_out, own_root_given_out, unmapped_in_one_space, unmapped_in_both_spaces, global_filled_in_other_space, global_dropped_in_other_space, global_of_no_root, page_of_no_root, global_after_fences_with_asid, page_after_fence_with_asid, global_used_elsewhere, entered_late, reused_before_fence, reused_after_fence, claimed_with_no_fence, claimed_with_fence, claimed_before_store, claimed_of_other_root, claimed_after_protection, used_after_free, used_after_claim, used_after_fence, used_before_free, used_elsewhere, used_beside)
