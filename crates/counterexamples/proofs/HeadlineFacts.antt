-- Machines and histories of which the statements of the headline are false.
use Rattle.std.proofs.Common.{◌≡◌, ℕ, zero, suc, ◌+◌, List, [], ◌∷◌, ◌++◌, Some, refl, ap, subst, ◌∙◌, arith, inl, inr}
use Rattle.std.proofs.Math.Path.{fun_ext}
use Rattle.pte.specs.declared.permission.Access.TheVariants as access
use Rattle.pte.specs.declared.scheme.Scheme.TheVariants.{Sv39}
use Rattle.pte.specs.Entry.{kind_of}
use Rattle.walk.specs.Leads.{Tables}
use Rattle.spaces.specs.Held.{Held, memory_words}
use Rattle.tlb.specs.declared.store.Entry.{Entry}
use Rattle.history.specs.Orders.{Protected}
use Rattle.history.specs.Setup.{Setup}
use Rattle.history.specs.Staleness.{Coherent, IsMapped}
use Rattle.history.specs.Tables.{words_of}
use Rattle.history.specs.declared.reply.Reply.{Reply}
use Rattle.history.specs.Turns.{History}
use Rattle.history.specs.Runs.{with_turn}
use Rattle.counterexamples.specs.WorkedEntries.{entry, global_entry, global_read_only_entry, read_only_entry}
use Rattle.counterexamples.specs.Counterexamples.{request_of}
use Rattle.counterexamples.specs.MailboxRuns.{mailboxes_of_two, two_requests_wait}
use Rattle.counterexamples.specs.ShootdownRuns as shootdowns
use Rattle.counterexamples.specs.UnlawfulRuns as unlawful
use Rattle.counterexamples.specs.WorkedRuns.{A, D, events, flags, history_after, history_of, large_page, R, replies, small_page, Step, two_harts, U, user}
use Rattle.counterexamples.proofs.ClearFacts as clear
use Rattle.counterexamples.proofs.CoherentFacts as coherent
use Rattle.counterexamples.proofs.CoherentFacts.{mapping}
use Rattle.counterexamples.proofs.Promises.{not_mapped}
use Rattle.counterexamples.proofs.MailboxFacts as mailbox
use Rattle.counterexamples.proofs.DoneFacts as done
use Rattle.counterexamples.specs.MachineCounterexamples.{machine_holding, machine_with, no_memory, NoneIsCoherent}
use Rattle.stepcore.specs.Runs.{after_run, IsClear, IsClearOnceDone, IsCoherent, MailboxesKeepOrder, NothingAfterCloses, with_turns}
use Rattle.stepcore.proofs.Running.{appended_is, no_turns}

-- clear
pub clear_sender : ¬ IsClear two_harts (history_of shootdowns.superpage_shootdown) (machine_holding (entry 1 (large_page 0x400000) 0x200 ∷ []) [])
clear_sender is = clear.sender (entry 1 (large_page 0x400000) 0x200 ∷ []) (0, omega arith, refl) (is 5 0 (omega arith))

pub clear_other : ¬ IsClear two_harts (history_of shootdowns.superpage_until_acknowledged) (machine_holding [] (entry 1 (large_page 0x400000) 0x200 ∷ []))
clear_other is = clear.page_itself (entry 1 (large_page 0x400000) 0x200 ∷ []) (0, omega arith, refl) (is 5 1 (omega arith))

pub clear_youngest : ¬ IsClear two_harts (history_of shootdowns.superpage_until_acknowledged) (machine_holding [] (entry 1 (small_page 0x1000) 0x100 ∷ entry 1 (small_page 0x5ff000) 0x3ff ∷ []))
clear_youngest is = clear.last_part (entry 1 (small_page 0x1000) 0x100 ∷ entry 1 (small_page 0x5ff000) 0x3ff ∷ []) (1, omega arith, refl) (is 5 1 (omega arith))

pub clear_global : ¬ IsClear two_harts (history_of shootdowns.superpage_until_acknowledged) (machine_holding [] (global_entry (small_page 0x401000) 0x100 ∷ []))
clear_global is = clear.global_part (global_entry (small_page 0x401000) 0x100 ∷ []) (0, omega arith, refl) (is 5 1 (omega arith))

pub clear_again : ¬ IsClear two_harts (history_of shootdowns.ticket_used_again) (machine_holding [] (entry 1 (large_page 0x400000) 0x200 ∷ []))
clear_again is = clear.ticket_used_again (entry 1 (large_page 0x400000) 0x200 ∷ []) (0, omega arith, refl) (is 5 1 (omega arith))

-- once done
pub done_sender : ¬ IsClearOnceDone two_harts (history_of shootdowns.superpage_shootdown) (machine_holding (entry 1 (large_page 0x400000) 0x200 ∷ []) [])
done_sender is = done.sender (entry 1 (large_page 0x400000) 0x200 ∷ []) (0, omega arith, refl) (is 5 0 (omega arith))

pub done_other : ¬ IsClearOnceDone two_harts (history_of shootdowns.superpage_shootdown) (machine_holding [] (entry 1 (large_page 0x400000) 0x200 ∷ []))
done_other is = done.page_itself (entry 1 (large_page 0x400000) 0x200 ∷ []) (0, omega arith, refl) (is 5 1 (omega arith))

pub done_again : ¬ IsClearOnceDone two_harts (history_of shootdowns.ticket_used_again) (machine_holding [] (entry 1 (large_page 0x400000) 0x200 ∷ []))
done_again is = done.ticket_used_again (entry 1 (large_page 0x400000) 0x200 ∷ []) (0, omega arith, refl) (is 5 1 (omega arith))

-- coherent: of a machine with the words of the history as of the history
of_history : (C : Setup) (H : History) (memory : Held) → ((ppn i : ℕ) → memory_words memory ppn i ≡ words_of C H ppn i) → (entries : List Entry) (k h : ℕ)
    → Coherent C H (memory_words memory) entries k h → Coherent C H (words_of C H) entries k h
of_history C H memory same entries k h =
    subst (λ (words : Tables). Coherent C H words entries k h) (fun_ext (λ ppn. fun_ext (λ i. same ppn i)))

pub coherent_flags : NoneIsCoherent two_harts (history_of shootdowns.read_only_until_acknowledged) [] (entry 1 (large_page 0x400000) 0x200 ∷ [])
coherent_flags memory same is =
    coherent.old_flags (entry 1 (large_page 0x400000) 0x200 ∷ []) (0, omega arith, refl)
    (of_history two_harts (history_of shootdowns.read_only_until_acknowledged) memory same (entry 1 (large_page 0x400000) 0x200 ∷ []) 5 1 (is 5 1 (omega arith)))

pub coherent_part : NoneIsCoherent two_harts (history_of shootdowns.read_only_until_acknowledged) [] (read_only_entry 1 (small_page 0x1000) 0x100 ∷ entry 1 (small_page 0x5ff000) 0x3ff ∷ [])
coherent_part memory same is =
    coherent.last_part (read_only_entry 1 (small_page 0x1000) 0x100 ∷ entry 1 (small_page 0x5ff000) 0x3ff ∷ []) (1, omega arith, refl)
    (of_history two_harts (history_of shootdowns.read_only_until_acknowledged) memory same (read_only_entry 1 (small_page 0x1000) 0x100 ∷ entry 1 (small_page 0x5ff000) 0x3ff ∷ []) 5 1 (is 5 1 (omega arith)))

pub coherent_every : NoneIsCoherent two_harts (history_of shootdowns.read_only_until_acknowledged) [] (global_read_only_entry (large_page 0x400000) 0x200 ∷ [])
coherent_every memory same is =
    coherent.for_every_asid (global_read_only_entry (large_page 0x400000) 0x200 ∷ []) (0, omega arith, refl)
    (of_history two_harts (history_of shootdowns.read_only_until_acknowledged) memory same (global_read_only_entry (large_page 0x400000) 0x200 ∷ []) 5 1 (is 5 1 (omega arith)))

pub coherent_nothing : NoneIsCoherent two_harts (history_of shootdowns.superpage_shootdown) [] (entry 1 (large_page 0x400000) 0x200 ∷ [])
coherent_nothing memory same is =
    coherent.nothing_mapped (entry 1 (large_page 0x400000) 0x200 ∷ []) (0, omega arith, refl)
    (of_history two_harts (history_of shootdowns.superpage_shootdown) memory same (entry 1 (large_page 0x400000) 0x200 ∷ []) 5 1 (is 5 1 (omega arith)))

pub coherent_sender : NoneIsCoherent two_harts (history_of shootdowns.superpage_shootdown) (entry 1 (large_page 0x400000) 0x200 ∷ []) []
coherent_sender memory same is =
    coherent.sender (entry 1 (large_page 0x400000) 0x200 ∷ []) (0, omega arith, refl)
    (of_history two_harts (history_of shootdowns.superpage_shootdown) memory same (entry 1 (large_page 0x400000) 0x200 ∷ []) 5 0 (is 5 0 (omega arith)))

pub coherent_again : NoneIsCoherent two_harts (history_of shootdowns.ticket_used_again) [] (entry 1 (large_page 0x400000) 0x200 ∷ [])
coherent_again memory same is =
    coherent.flushed (entry 1 (large_page 0x400000) 0x200 ∷ []) (0, omega arith, refl)
    (of_history two_harts (history_of shootdowns.ticket_used_again) memory same (entry 1 (large_page 0x400000) 0x200 ∷ []) 5 1 (is 5 1 (omega arith)))

-- a machine without words maps nothing
nothing_mapped : ¬ IsMapped two_harts (memory_words no_memory) 0 (mapping (Some 1) 0x400 0x200 (R + U + A + D))
unfolding kind_of memory_words
nothing_mapped m =
    not_mapped Sv39 (memory_words no_memory) 0x80001 0x400000 0x200 access.Load user (flags (R + U + A + D)) _
    (inl (omega arith)) refl refl m

pub coherent_own_words : ¬ IsCoherent two_harts (history_of shootdowns.read_only_until_acknowledged) (machine_holding [] (read_only_entry 1 (large_page 0x400000) 0x200 ∷ []))
coherent_own_words is =
    let held = is 5 1 (omega arith) (Protected (Some 1) (large_page 0x400000)) (Some 1) (large_page 0x400000) (inr refl)
    (record { order = _; is = refl; same_cause = refl; named = refl; acked = refl }) refl
    (mapping (Some 1) 0x400 0x200 (R + U + A + D))
    (read_only_entry 1 (large_page 0x400000) 0x200, (0, omega arith, refl), record { asid = refl; page = record { from = omega arith; to = omega arith }; ppn = refl; flags = refl })
    (inr (1, refl, refl)) (record { from = omega arith; to = omega arith }) in
    nothing_mapped (held.each 0 (record { there = omega arith; kept = refl; same = refl }))

-- mailboxes
pub order_kept : MailboxesKeepOrder mailboxes_of_two (history_of two_requests_wait) (machine_with (request_of 1 ∷ request_of 2 ∷ []) [])
order_kept zero zero s h = refl
order_kept zero (suc zero) s h = mailbox.kept
order_kept (suc zero) zero s h = refl
order_kept (suc zero) (suc zero) s h = refl
order_kept (suc (suc a)) b s h = absurd (omega (arith, s))
order_kept a (suc (suc b)) s h = absurd (omega (arith, h))

pub order_swapped : ¬ MailboxesKeepOrder mailboxes_of_two (history_of two_requests_wait) (machine_with (request_of 2 ∷ request_of 1 ∷ []) [])
order_swapped is = mailbox.swapped (is 0 1 (omega arith) (omega arith))

pub order_first_lost : ¬ MailboxesKeepOrder mailboxes_of_two (history_of two_requests_wait) (machine_with (request_of 2 ∷ []) [])
order_first_lost is = mailbox.first_lost (is 0 1 (omega arith) (omega arith))

pub order_last_lost : ¬ MailboxesKeepOrder mailboxes_of_two (history_of two_requests_wait) (machine_with (request_of 1 ∷ []) [])
order_last_lost is = mailbox.last_lost (is 0 1 (omega arith) (omega arith))

pub order_all_lost : ¬ MailboxesKeepOrder mailboxes_of_two (history_of two_requests_wait) (machine_with [] [])
order_all_lost is = mailbox.all_lost (is 0 1 (omega arith) (omega arith))

pub order_doubled : ¬ MailboxesKeepOrder mailboxes_of_two (history_of two_requests_wait) (machine_with (request_of 1 ∷ request_of 1 ∷ request_of 2 ∷ []) [])
order_doubled is = mailbox.doubled (is 0 1 (omega arith) (omega arith))

pub order_back_again : ¬ MailboxesKeepOrder mailboxes_of_two (history_of two_requests_wait) (machine_with (request_of 0 ∷ request_of 1 ∷ request_of 2 ∷ []) [])
order_back_again is = mailbox.back_again (is 0 1 (omega arith) (omega arith))

pub order_never_posted : ¬ MailboxesKeepOrder mailboxes_of_two (history_of two_requests_wait) (machine_with (request_of 1 ∷ request_of 2 ∷ request_of 3 ∷ []) [])
order_never_posted is = mailbox.never_posted (is 0 1 (omega arith) (omega arith))

pub order_other_direction : ¬ MailboxesKeepOrder mailboxes_of_two (history_of two_requests_wait) (machine_with (request_of 1 ∷ request_of 2 ∷ []) (request_of 1 ∷ []))
order_other_direction is = mailbox.one_never_posted (is 1 0 (omega arith) (omega arith))

-- closes
pub closed_after : ¬ NothingAfterCloses two_harts (history_of unlawful.posted_after_close)
closed_after none = mailbox.after_close (none 0 1)

pub closed_and_taken : ¬ NothingAfterCloses two_harts (history_of unlawful.posted_after_close_and_taken)
closed_and_taken none = mailbox.after_close_and_taken (none 0 1)

pub closed_from_1 : ¬ NothingAfterCloses two_harts (history_of unlawful.posted_after_close_from_1)
closed_from_1 none = mailbox.after_close_from_1 (none 1 0)

-- the history after a run
turns_are : (steps more : List Step) (H : History) → with_turns (events (steps ++ more)) (replies steps) H ≡ history_after H steps
turns_are [] more H = no_turns (events more) H
turns_are (step ∷ steps) more H = turns_are steps more (with_turn step.0 step.1 H)

pub run_is : (steps more : List Step) (old : List Reply) (H : History) → after_run (events (steps ++ more)) old (old ++ replies steps) H ≡ history_after H steps
run_is steps more old H =
    ap (λ (new : List Reply). with_turns (events (steps ++ more)) new H) (appended_is old (replies steps)) ∙ turns_are steps more H
