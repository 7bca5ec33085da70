-- What a Done forbids a TLB to hold after the worked runs, and where it says nothing.
use Rattle.std.proofs.Common.{◌≡◌, ℕ, false, IsTrue, drop, take, refl, sym, ap, ◌∙◌, arith, inl, inr, Option, Some, None}
use Rattle.std.proofs.lemmas.Bool.{eq-eqb, true≢false}
use Rattle.pte.specs.Address.{Holds, IsPage, Span}
use Rattle.pte.specs.Entry.{kind_of}
use Rattle.shoot.specs.HartSet.{byte_of, difference}
use Rattle.spaces.specs.Edits.{edit_of, path_end, wish_fault}
use Rattle.tlb.specs.declared.store.Entry.{Entry}
use Rattle.tlb.specs.Entries.{is_match}
use Rattle.tlb.proofs.Translating.{match_translates}
use Rattle.history.specs.Setup.{Setup}
use Rattle.history.specs.declared.event.Event.TheVariants.{AckSelf}
use Rattle.history.specs.declared.reply.Reply.TheVariants as reply
use Rattle.history.specs.Turns.{History}
use Rattle.history.specs.Due.{names}
use Rattle.history.specs.Staleness.{IsAsidOf, is_mapped_anew}
use Rattle.history.specs.Orders.{order_at}
use Rattle.history.specs.Acknowledgements.{is_acked}
use Rattle.history.specs.Completion.{IsDoneAt, IsDoneFor}
use Rattle.history.specs.Occurrences.{Sometime}
use Rattle.counterexamples.specs.WorkedEntries.{entry, global_entry}
use Rattle.counterexamples.specs.ServiceRuns.{spaces_of_other_asids}
use Rattle.counterexamples.specs.ServiceRuns as services
use Rattle.counterexamples.specs.ShootdownRuns as shootdowns
use Rattle.counterexamples.specs.StalenessRuns as staleness
use Rattle.counterexamples.specs.WorkedRuns.{history_of, huge_page, IsRun, large_page, small_page, two_harts}
use Rattle.counterexamples.proofs.RunsAreLawful.{lawful_run}
use Rattle.counterexamples.specs.DoneCounterexamples.{DoneAllowsAll, DoneForbids}
use Rattle.laws.proofs.Accepted.{turn_of}
use Rattle.laws.proofs.Completed.{done_acked}

module _ (C : Setup) (H : History) (k h : ℕ) where
  forbids : (of : Option ℕ) (page : Span) → IsDoneFor C H k h of page → is_mapped_anew C H k ≡ false
      → (asid va : ℕ) → IsAsidOf of asid → Holds page va → (e : Entry) → IsPage e.page → IsTrue (is_match asid va e) → DoneForbids C H k h e
  forbids of page done old asid va for held e aligned on entries at clear =
      clear of page done old asid va for held (match_translates entries asid va e aligned at on)

  unnamed_allows : names (order_at C H k) h ≡ false → DoneAllowsAll C H k h
  unnamed_allows none entries of page done = absurd (true≢false (sym (ap (λ o. names o h) done.is ∙ done.named) ∙ none))

-- the superpage
superpage_done : Sometime (IsDoneAt 5) (history_of shootdowns.superpage_shootdown)
superpage_done = record {
  later = take 1 (history_of shootdowns.superpage_shootdown);
  turn = turn_of (AckSelf 0 0) reply.Done;
  earlier = drop 2 (history_of shootdowns.superpage_shootdown);
  split = refl;
  so = record { sender = 0; ticket = 0; event = inl refl; told = refl; order = refl };
}

pub sender_done : IsDoneFor two_harts (history_of shootdowns.superpage_shootdown) 5 0 (Some 1) (large_page 0x400000)
sender_done = record { order = _; is = refl; cause = refl; named = refl; done = superpage_done }

pub other_done : IsDoneFor two_harts (history_of shootdowns.superpage_shootdown) 5 1 (Some 1) (large_page 0x400000)
other_done = record { order = _; is = refl; cause = refl; named = refl; done = superpage_done }

pub sender : DoneForbids two_harts (history_of shootdowns.superpage_shootdown) 5 0 (entry 1 (large_page 0x400000) 0x200)
sender =
    forbids two_harts (history_of shootdowns.superpage_shootdown) 5 0 (Some 1) (large_page 0x400000) sender_done refl 1 0x400000 refl
    (record { from = omega arith; below = omega arith }) (entry 1 (large_page 0x400000) 0x200) (record { canonical = inl (omega arith); aligned = refl }) refl

superpage_forbids : (va : ℕ) → Holds (large_page 0x400000) va → (e : Entry) → IsPage e.page → IsTrue (is_match 1 va e)
    → DoneForbids two_harts (history_of shootdowns.superpage_shootdown) 5 1 e
superpage_forbids va held e aligned on =
    forbids two_harts (history_of shootdowns.superpage_shootdown) 5 1 (Some 1) (large_page 0x400000) other_done refl 1 va refl held e aligned on

pub page_itself : DoneForbids two_harts (history_of shootdowns.superpage_shootdown) 5 1 (entry 1 (large_page 0x400000) 0x200)
page_itself =
    superpage_forbids 0x400000 (record { from = omega arith; below = omega arith }) (entry 1 (large_page 0x400000) 0x200)
    (record { canonical = inl (omega arith); aligned = refl }) refl

pub last_part : DoneForbids two_harts (history_of shootdowns.superpage_shootdown) 5 1 (entry 1 (small_page 0x5ff000) 0x3ff)
last_part =
    superpage_forbids 0x5ff000 (record { from = omega arith; below = omega arith }) (entry 1 (small_page 0x5ff000) 0x3ff)
    (record { canonical = inl (omega arith); aligned = refl }) refl

pub larger_page : DoneForbids two_harts (history_of shootdowns.superpage_shootdown) 5 1 (entry 1 (huge_page 0x0) 0x0)
larger_page =
    superpage_forbids 0x400000 (record { from = omega arith; below = omega arith }) (entry 1 (huge_page 0x0) 0x0)
    (record { canonical = inl (omega arith); aligned = refl }) refl

pub global_part : DoneForbids two_harts (history_of shootdowns.superpage_shootdown) 5 1 (global_entry (small_page 0x401000) 0x100)
global_part =
    superpage_forbids 0x401000 (record { from = omega arith; below = omega arith }) (global_entry (small_page 0x401000) 0x100)
    (record { canonical = inl (omega arith); aligned = refl }) refl

pub ticket_used_again : DoneForbids two_harts (history_of shootdowns.ticket_used_again) 5 1 (entry 1 (large_page 0x400000) 0x200)
ticket_used_again =
    forbids two_harts (history_of shootdowns.ticket_used_again) 5 1 (Some 1) (large_page 0x400000)
    (record {
      order = _;
      is = refl;
      cause = refl;
      named = refl;
      done = record {
        later = take 2 (history_of shootdowns.ticket_used_again);
        turn = turn_of (AckSelf 0 0) reply.Done;
        earlier = drop 3 (history_of shootdowns.ticket_used_again);
        split = refl;
        so = record { sender = 0; ticket = 0; event = inl refl; told = refl; order = refl };
      };
    })
    refl 1 0x400000 refl (record { from = omega arith; below = omega arith }) (entry 1 (large_page 0x400000) 0x200)
    (record { canonical = inl (omega arith); aligned = refl }) refl

-- the kernel page: 8 turns follow the own acknowledgement
kernel_forbids : (e : Entry) → IsPage e.page → (asid : ℕ) → IsTrue (is_match asid 0xffffffffc0000000 e)
    → DoneForbids spaces_of_other_asids (history_of services.own_acknowledgement_of_a_kernel_page) 30 0 e
kernel_forbids e aligned asid on =
    forbids spaces_of_other_asids (history_of services.own_acknowledgement_of_a_kernel_page) 30 0 None (small_page 0xffffffffc0000000)
    (record {
      order = _;
      is = refl;
      cause = refl;
      named = refl;
      done = record {
        later = take 8 (history_of services.own_acknowledgement_of_a_kernel_page);
        turn = turn_of (AckSelf 0 0) reply.Done;
        earlier = drop 9 (history_of services.own_acknowledgement_of_a_kernel_page);
        split = refl;
        so = record { sender = 0; ticket = 0; event = inl refl; told = refl; order = refl };
      };
    })
    refl asid 0xffffffffc0000000 tt (record { from = omega arith; below = omega arith }) e aligned on

pub kernel_page_global : DoneForbids spaces_of_other_asids (history_of services.own_acknowledgement_of_a_kernel_page) 30 0 (global_entry (small_page 0xffffffffc0000000) 0x300)
kernel_page_global = kernel_forbids (global_entry (small_page 0xffffffffc0000000) 0x300) (record { canonical = inr (omega arith, omega arith); aligned = refl }) 0 refl

pub kernel_page_each_asid : (asid : ℕ) → DoneForbids spaces_of_other_asids (history_of services.own_acknowledgement_of_a_kernel_page) 30 0 (entry asid (small_page 0xffffffffc0000000) 0x300)
kernel_page_each_asid asid =
    kernel_forbids (entry asid (small_page 0xffffffffc0000000) 0x300) (record { canonical = inr (omega arith, omega arith); aligned = refl }) asid (eq-eqb asid asid refl)

-- hart 0 has not acknowledged its order, so it was not answered Done
until_acknowledged : IsRun two_harts shootdowns.superpage_until_acknowledged
unfolding IsRun kind_of wish_fault path_end edit_of byte_of difference
until_acknowledged = refl

pub not_done : DoneAllowsAll two_harts (history_of shootdowns.superpage_until_acknowledged) 5 1
not_done entries of page done =
    let none : is_acked two_harts (history_of shootdowns.superpage_until_acknowledged) 5 0 ≡ false = refl in
    let acked = done_acked two_harts (history_of shootdowns.superpage_until_acknowledged) 5 0 (lawful_run two_harts shootdowns.superpage_until_acknowledged until_acknowledged) done.done refl in
    absurd (true≢false (sym acked ∙ none))

pub unnamed : DoneAllowsAll two_harts (history_of staleness.unnamed_hart) 5 1
unnamed = unnamed_allows two_harts (history_of staleness.unnamed_hart) 5 1 refl
