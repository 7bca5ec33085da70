-- What Coherent forbids a TLB to hold after the worked runs, and where it says nothing.
use Rattle.pte.specs.declared.scheme.Scheme.TheVariants.{Sv39}
use Rattle.std.proofs.Common.{ℕ, ◌+◌, Option, Some, None, refl, arith, inl, inr}
use Rattle.pte.specs.declared.permission.Access.TheVariants as access
use Rattle.pte.specs.Entry.{kind_of}
use Rattle.spaces.specs.Edits.{wish_fault, path_end, edit_of}
use Rattle.tlb.specs.Mappings.{Mapping}
use Rattle.history.specs.Orders.{Unmapped, Protected}
use Rattle.history.specs.Tables.{words_of}
use Rattle.history.specs.Staleness.{IsMapped}
use Rattle.counterexamples.specs.WorkedRuns.{history_of, large_page, small_page, two_harts, three_harts, flags, R, W, U, A, D, user}
use Rattle.counterexamples.specs.ShootdownRuns as shootdowns
use Rattle.counterexamples.specs.KernelRuns as kernel
use Rattle.counterexamples.specs.StalenessRuns as staleness
use Rattle.counterexamples.specs.WorkedEntries.{entry, read_only_entry, global_entry, global_read_only_entry}
use Rattle.counterexamples.specs.Counterexamples.{CoherentForbids, CoherentAllowsAll}
use Rattle.counterexamples.proofs.Promises.{not_mapped, not_global, coherent_forbids, unacked_coherent, unnamed_coherent, superseded_coherent}

-- the mapping of the page of 4 KiB with a number
abbrev pub mapping : Option ℕ → ℕ → ℕ → ℕ → Mapping
mapping asid page ppn bits = record { asid = asid; page = page; ppn = ppn; flags = flags bits }

-- after the change of flags the tables do not let the page be stored to
writable_gone : ¬ IsMapped two_harts (words_of two_harts (history_of shootdowns.read_only_until_acknowledged)) 0 (mapping (Some 1) 0x400 0x200 (R + W + U + A + D))
unfolding kind_of wish_fault path_end edit_of
writable_gone m =
    not_mapped Sv39 (words_of two_harts (history_of shootdowns.read_only_until_acknowledged)) 0x80001 0x400000 0x200 access.Store user (flags (R + W + U + A + D)) _
    (inl (omega arith)) refl refl m

pub old_flags : CoherentForbids two_harts (history_of shootdowns.read_only_until_acknowledged) 5 1 (entry 1 (large_page 0x400000) 0x200)
old_flags =
    coherent_forbids two_harts (history_of shootdowns.read_only_until_acknowledged) 5 1 (Protected (Some 1) (large_page 0x400000)) (Some 1) (large_page 0x400000) (inr refl)
    (record { order = _; is = refl; same_cause = refl; named = refl; acked = refl }) refl (entry 1 (large_page 0x400000) 0x200)
    (mapping (Some 1) 0x400 0x200 (R + W + U + A + D))
    (record { asid = refl; page = record { from = omega arith; to = omega arith }; ppn = refl; flags = refl })
    (inr (1, refl, refl)) (record { from = omega arith; to = omega arith }) 0 (record { there = omega arith; kept = refl; same = refl }) writable_gone

-- the page is mapped anew, to another PPN
old_frame_gone : ¬ IsMapped three_harts (words_of three_harts (history_of shootdowns.mapped_anew_until_acknowledged)) 0 (mapping (Some 1) 1 0x100 (R + U + A + D))
unfolding kind_of wish_fault path_end edit_of
old_frame_gone m =
    not_mapped Sv39 (words_of three_harts (history_of shootdowns.mapped_anew_until_acknowledged)) 0x80001 0x1000 0x100 access.Load user (flags (R + U + A + D)) _
    (inl (omega arith)) refl refl m

pub old_ppn : CoherentForbids three_harts (history_of shootdowns.mapped_anew_until_acknowledged) 7 2 (read_only_entry 1 (small_page 0x1000) 0x100)
old_ppn =
    coherent_forbids three_harts (history_of shootdowns.mapped_anew_until_acknowledged) 7 2 (Unmapped (Some 1) (small_page 0x1000)) (Some 1) (small_page 0x1000) (inl refl)
    (record { order = _; is = refl; same_cause = refl; named = refl; acked = refl }) refl (read_only_entry 1 (small_page 0x1000) 0x100)
    (mapping (Some 1) 1 0x100 (R + U + A + D))
    (record { asid = refl; page = record { from = omega arith; to = omega arith }; ppn = refl; flags = refl })
    (inr (1, refl, refl)) (record { from = omega arith; to = omega arith }) 0 (record { there = omega arith; kept = refl; same = refl }) old_frame_gone

-- the page is unmapped: nothing of it is mapped, for no ASID
superpage_gone : (asid : Option ℕ) → ¬ IsMapped two_harts (words_of two_harts (history_of shootdowns.superpage_shootdown)) 0 (mapping asid 0x400 0x200 (R + W + U + A + D))
unfolding kind_of wish_fault path_end edit_of
superpage_gone asid m =
    not_mapped Sv39 (words_of two_harts (history_of shootdowns.superpage_shootdown)) 0x80001 0x400000 0x200 access.Load user (flags (R + W + U + A + D)) _
    (inl (omega arith)) refl refl m

pub nothing_mapped : CoherentForbids two_harts (history_of shootdowns.superpage_shootdown) 5 1 (entry 1 (large_page 0x400000) 0x200)
nothing_mapped =
    coherent_forbids two_harts (history_of shootdowns.superpage_shootdown) 5 1 (Unmapped (Some 1) (large_page 0x400000)) (Some 1) (large_page 0x400000) (inl refl)
    (record { order = _; is = refl; same_cause = refl; named = refl; acked = refl }) refl (entry 1 (large_page 0x400000) 0x200)
    (mapping (Some 1) 0x400 0x200 (R + W + U + A + D))
    (record { asid = refl; page = record { from = omega arith; to = omega arith }; ppn = refl; flags = refl })
    (inr (1, refl, refl)) (record { from = omega arith; to = omega arith }) 0 (record { there = omega arith; kept = refl; same = refl }) (superpage_gone (Some 1))

pub global : CoherentForbids two_harts (history_of shootdowns.superpage_shootdown) 5 1 (global_entry (large_page 0x400000) 0x200)
global =
    coherent_forbids two_harts (history_of shootdowns.superpage_shootdown) 5 1 (Unmapped (Some 1) (large_page 0x400000)) (Some 1) (large_page 0x400000) (inl refl)
    (record { order = _; is = refl; same_cause = refl; named = refl; acked = refl }) refl (global_entry (large_page 0x400000) 0x200)
    (mapping None 0x400 0x200 (R + W + U + A + D))
    (record { asid = refl; page = record { from = omega arith; to = omega arith }; ppn = refl; flags = refl })
    (inl refl) (record { from = omega arith; to = omega arith }) 0 (record { there = omega arith; kept = refl; same = refl }) (superpage_gone None)

pub sender : CoherentForbids two_harts (history_of shootdowns.superpage_shootdown) 5 0 (entry 1 (large_page 0x400000) 0x200)
sender =
    coherent_forbids two_harts (history_of shootdowns.superpage_shootdown) 5 0 (Unmapped (Some 1) (large_page 0x400000)) (Some 1) (large_page 0x400000) (inl refl)
    (record { order = _; is = refl; same_cause = refl; named = refl; acked = refl }) refl (entry 1 (large_page 0x400000) 0x200)
    (mapping (Some 1) 0x400 0x200 (R + W + U + A + D))
    (record { asid = refl; page = record { from = omega arith; to = omega arith }; ppn = refl; flags = refl })
    (inr (1, refl, refl)) (record { from = omega arith; to = omega arith }) 0 (record { there = omega arith; kept = refl; same = refl }) (superpage_gone (Some 1))

-- a kernel page is unmapped, for every ASID: from the root of space 1 too nothing of it is mapped
kernel_page_gone : (asid : Option ℕ)
    → ¬ IsMapped kernel.spaces_of_two_homes (words_of kernel.spaces_of_two_homes (history_of kernel.kernel_page_until_acknowledged)) 1 (mapping asid 0xffffffffc0000 0x300 (R + W + U + A + D))
unfolding kind_of wish_fault path_end edit_of
kernel_page_gone asid m =
    not_mapped Sv39 (words_of kernel.spaces_of_two_homes (history_of kernel.kernel_page_until_acknowledged)) 0x80002 0xffffffffc0000000 0x300 access.Load user
    (flags (R + W + U + A + D)) _ (inr (omega arith, omega arith)) refl refl m

pub kernel_page : (asid : ℕ) → CoherentForbids kernel.spaces_of_two_homes (history_of kernel.kernel_page_until_acknowledged) 10 1 (entry asid (small_page 0xffffffffc0000000) 0x300)
kernel_page asid =
    coherent_forbids kernel.spaces_of_two_homes (history_of kernel.kernel_page_until_acknowledged) 10 1 (Unmapped None (small_page 0xffffffffc0000000)) None
    (small_page 0xffffffffc0000000) (inl refl) (record { order = _; is = refl; same_cause = refl; named = refl; acked = refl }) refl
    (entry asid (small_page 0xffffffffc0000000) 0x300) (mapping (Some asid) 0xffffffffc0000 0x300 (R + W + U + A + D))
    (record { asid = refl; page = record { from = omega arith; to = omega arith }; ppn = refl; flags = refl })
    (inr (asid, refl, tt)) (record { from = omega arith; to = omega arith }) 1 (omega arith) (kernel_page_gone (Some asid))

-- the last small page of the superpage, with the old flags
last_writable_gone : ¬ IsMapped two_harts (words_of two_harts (history_of shootdowns.read_only_until_acknowledged)) 0 (mapping (Some 1) 0x5ff 0x3ff (R + W + U + A + D))
unfolding kind_of wish_fault path_end edit_of
last_writable_gone m =
    not_mapped Sv39 (words_of two_harts (history_of shootdowns.read_only_until_acknowledged)) 0x80001 0x5ff000 0x3ff access.Store user (flags (R + W + U + A + D)) _
    (inl (omega arith)) refl refl m

pub last_part : CoherentForbids two_harts (history_of shootdowns.read_only_until_acknowledged) 5 1 (entry 1 (small_page 0x5ff000) 0x3ff)
last_part =
    coherent_forbids two_harts (history_of shootdowns.read_only_until_acknowledged) 5 1 (Protected (Some 1) (large_page 0x400000)) (Some 1) (large_page 0x400000) (inr refl)
    (record { order = _; is = refl; same_cause = refl; named = refl; acked = refl }) refl (entry 1 (small_page 0x5ff000) 0x3ff)
    (mapping (Some 1) 0x5ff 0x3ff (R + W + U + A + D))
    (record { asid = refl; page = record { from = omega arith; to = omega arith }; ppn = refl; flags = refl })
    (inr (1, refl, refl)) (record { from = omega arith; to = omega arith }) 0 (record { there = omega arith; kept = refl; same = refl }) last_writable_gone

-- neither a flush nor what is refused ends the promise
gone_after_flush : ¬ IsMapped two_harts (words_of two_harts (history_of shootdowns.ticket_used_again)) 0 (mapping (Some 1) 0x400 0x200 (R + W + U + A + D))
unfolding kind_of wish_fault path_end edit_of
gone_after_flush m =
    not_mapped Sv39 (words_of two_harts (history_of shootdowns.ticket_used_again)) 0x80001 0x400000 0x200 access.Load user (flags (R + W + U + A + D)) _
    (inl (omega arith)) refl refl m

pub flushed : CoherentForbids two_harts (history_of shootdowns.ticket_used_again) 5 1 (entry 1 (large_page 0x400000) 0x200)
flushed =
    coherent_forbids two_harts (history_of shootdowns.ticket_used_again) 5 1 (Unmapped (Some 1) (large_page 0x400000)) (Some 1) (large_page 0x400000) (inl refl)
    (record { order = _; is = refl; same_cause = refl; named = refl; acked = refl }) refl (entry 1 (large_page 0x400000) 0x200)
    (mapping (Some 1) 0x400 0x200 (R + W + U + A + D))
    (record { asid = refl; page = record { from = omega arith; to = omega arith }; ppn = refl; flags = refl })
    (inr (1, refl, refl)) (record { from = omega arith; to = omega arith }) 0 (record { there = omega arith; kept = refl; same = refl }) (gone_after_flush)

gone_after_refusals : ¬ IsMapped two_harts (words_of two_harts (history_of staleness.refused_changes)) 0 (mapping (Some 1) 0x400 0x200 (R + W + U + A + D))
unfolding kind_of wish_fault path_end edit_of
gone_after_refusals m =
    not_mapped Sv39 (words_of two_harts (history_of staleness.refused_changes)) 0x80001 0x400000 0x200 access.Load user (flags (R + W + U + A + D)) _
    (inl (omega arith)) refl refl m

pub refused_changes : CoherentForbids two_harts (history_of staleness.refused_changes) 5 1 (entry 1 (large_page 0x400000) 0x200)
refused_changes =
    coherent_forbids two_harts (history_of staleness.refused_changes) 5 1 (Unmapped (Some 1) (large_page 0x400000)) (Some 1) (large_page 0x400000) (inl refl)
    (record { order = _; is = refl; same_cause = refl; named = refl; acked = refl }) refl (entry 1 (large_page 0x400000) 0x200)
    (mapping (Some 1) 0x400 0x200 (R + W + U + A + D))
    (record { asid = refl; page = record { from = omega arith; to = omega arith }; ppn = refl; flags = refl })
    (inr (1, refl, refl)) (record { from = omega arith; to = omega arith }) 0 (record { there = omega arith; kept = refl; same = refl }) (gone_after_refusals)

-- nor does a change of the same page of another space
gone_in_space_0 : ¬ IsMapped shootdowns.spaces_of_one_home (words_of shootdowns.spaces_of_one_home (history_of staleness.same_page_of_another_space)) 0 (mapping (Some 1) 1 0x100 (R + U + A + D))
unfolding kind_of wish_fault path_end edit_of
gone_in_space_0 m =
    not_mapped Sv39 (words_of shootdowns.spaces_of_one_home (history_of staleness.same_page_of_another_space)) 0x80001 0x1000 0x100 access.Load user (flags (R + U + A + D)) _
    (inl (omega arith)) refl refl m

pub other_space : CoherentForbids shootdowns.spaces_of_one_home (history_of staleness.same_page_of_another_space) 15 1 (read_only_entry 1 (small_page 0x1000) 0x100)
other_space =
    coherent_forbids shootdowns.spaces_of_one_home (history_of staleness.same_page_of_another_space) 15 1 (Unmapped (Some 1) (small_page 0x1000)) (Some 1) (small_page 0x1000) (inl refl)
    (record { order = _; is = refl; same_cause = refl; named = refl; acked = refl }) refl (read_only_entry 1 (small_page 0x1000) 0x100)
    (mapping (Some 1) 1 0x100 (R + U + A + D))
    (record { asid = refl; page = record { from = omega arith; to = omega arith }; ppn = refl; flags = refl })
    (inr (1, refl, refl)) (record { from = omega arith; to = omega arith }) 0 (record { there = omega arith; kept = refl; same = refl }) gone_in_space_0

-- what is mapped for one ASID is not held for every one
local_alone : ¬ IsMapped two_harts (words_of two_harts (history_of shootdowns.read_only_until_acknowledged)) 0 (mapping None 0x400 0x200 (R + U + A + D))
unfolding kind_of wish_fault path_end edit_of
local_alone m =
    not_global Sv39 (words_of two_harts (history_of shootdowns.read_only_until_acknowledged)) 0x80001 0x400000 0x200 access.Load user (flags (R + U + A + D)) (inl (omega arith)) refl refl m

pub for_every_asid : CoherentForbids two_harts (history_of shootdowns.read_only_until_acknowledged) 5 1 (global_read_only_entry (large_page 0x400000) 0x200)
for_every_asid =
    coherent_forbids two_harts (history_of shootdowns.read_only_until_acknowledged) 5 1 (Protected (Some 1) (large_page 0x400000)) (Some 1) (large_page 0x400000) (inr refl)
    (record { order = _; is = refl; same_cause = refl; named = refl; acked = refl }) refl (global_read_only_entry (large_page 0x400000) 0x200)
    (mapping None 0x400 0x200 (R + U + A + D))
    (record { asid = refl; page = record { from = omega arith; to = omega arith }; ppn = refl; flags = refl })
    (inl refl) (record { from = omega arith; to = omega arith }) 0 (record { there = omega arith; kept = refl; same = refl }) local_alone

-- where Coherent says nothing
pub unacknowledged : CoherentAllowsAll two_harts (history_of shootdowns.read_only_until_service) 5 1
unacknowledged = unacked_coherent two_harts (history_of shootdowns.read_only_until_service) 5 1 refl

pub unnamed : CoherentAllowsAll two_harts (history_of staleness.unnamed_hart) 5 1
unnamed = unnamed_coherent two_harts (history_of staleness.unnamed_hart) 5 1 refl

pub protected_once_more : CoherentAllowsAll two_harts (history_of staleness.protected_once_more) 5 1
protected_once_more = superseded_coherent two_harts (history_of staleness.protected_once_more) 5 1 refl

pub unmapped_once_more : CoherentAllowsAll two_harts (history_of staleness.unmapped_once_more) 5 1
unmapped_once_more = superseded_coherent two_harts (history_of staleness.unmapped_once_more) 5 1 refl
