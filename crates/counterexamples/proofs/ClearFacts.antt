-- What Clear forbids a TLB to hold after the worked runs, and where it says nothing.
use Rattle.std.proofs.Common.{◌≡◌, ℕ, ◌+◌, ◌≤◌, ◌⊎◌, ◌==◌, ◌||◌, false, [], ◌∷◌, IsTrue, refl, subst, arith, inl, inr, Some, None}
use Rattle.std.proofs.lemmas.Bool.{and_parts, eq-eqb, eqb-true}
use Rattle.pte.specs.Address.{IsPage, Holds, bytes_of}
use Rattle.pte.specs.declared.address.PageSize.TheVariants.{Kib4}
use Rattle.pte.specs.Entry.{kind_of}
use Rattle.spaces.specs.Edits.{wish_fault, path_end, edit_of}
use Rattle.tlb.specs.Mappings.{IsMappedBy, Translates}
use Rattle.tlb.proofs.Overlapping.{holds-Holds}
use Rattle.history.specs.Harts.{entries_of}
use Rattle.tlb.specs.declared.store.Entry.{Entry}
use Rattle.tlb.specs.Entries.{holds, is_match}
use Rattle.history.specs.Turns.{History}
use Rattle.history.specs.Orders.{Unmapped}
use Rattle.history.specs.Staleness.{is_mapped_anew, HasAnswered, Clear}
use Rattle.counterexamples.specs.WorkedRuns.{history_of, huge_page, large_page, small_page, two_harts}
use Rattle.counterexamples.specs.ShootdownRuns as shootdowns
use Rattle.counterexamples.specs.KernelRuns as kernel
use Rattle.counterexamples.specs.StalenessRuns as staleness
use Rattle.counterexamples.specs.WorkedEntries.{entry, read_only_entry, global_entry}
use Rattle.counterexamples.specs.Counterexamples.{ClearForbids, ClearAllowsAll}
use Rattle.counterexamples.proofs.Promises.{clear_forbids, clear_allows, other_cause_clear, one_match, unacked_clear, anew_clear, unnamed_clear}

-- no address lies in the superpage and in a page beside it
by_side : (base va : ℕ) → Holds (large_page 0x400000) va → Holds (small_page base) va → (base + bytes_of Kib4 ≤ 0x400000) ⊎ (0x600000 ≤ base) → ⊥
by_side base va held there (inl before) = omega (arith, held.from, there.below, before)
by_side base va held there (inr behind) = omega (arith, held.below, there.from, behind)

-- the page of 2 MiB that hart 0 unmapped
module _ (H : History) (h : ℕ) where
  superpage_forbids : HasAnswered two_harts H 5 h (Unmapped (Some 1) (large_page 0x400000)) → is_mapped_anew two_harts H 5 ≡ false
      → (va : ℕ) → Holds (large_page 0x400000) va → (e : Entry) → IsPage e.page → IsTrue (is_match 1 va e) → ClearForbids two_harts H 5 h e
  superpage_forbids answered old va held e aligned on = clear_forbids two_harts H 5 h (Some 1) (large_page 0x400000) answered old 1 va refl held e aligned on

  superpage_itself : HasAnswered two_harts H 5 h (Unmapped (Some 1) (large_page 0x400000)) → is_mapped_anew two_harts H 5 ≡ false
      → ClearForbids two_harts H 5 h (entry 1 (large_page 0x400000) 0x200)
  superpage_itself answered old =
      superpage_forbids answered old 0x400000 (record { from = omega arith; below = omega arith }) (entry 1 (large_page 0x400000) 0x200)
      (record { canonical = inl (omega arith); aligned = refl }) refl

abbrev acknowledged : History
acknowledged = history_of shootdowns.superpage_until_acknowledged

answered : HasAnswered two_harts acknowledged 5 1 (Unmapped (Some 1) (large_page 0x400000))
answered = record { order = _; is = refl; same_cause = refl; named = refl; acked = refl }

pub page_itself : ClearForbids two_harts (history_of shootdowns.superpage_until_acknowledged) 5 1 (entry 1 (large_page 0x400000) 0x200)
page_itself = superpage_itself acknowledged 1 answered refl

pub last_part : ClearForbids two_harts (history_of shootdowns.superpage_until_acknowledged) 5 1 (entry 1 (small_page 0x5ff000) 0x3ff)
last_part =
    superpage_forbids acknowledged 1 answered refl 0x5ff000 (record { from = omega arith; below = omega arith }) (entry 1 (small_page 0x5ff000) 0x3ff)
    (record { canonical = inl (omega arith); aligned = refl }) refl

pub larger_page : ClearForbids two_harts (history_of shootdowns.superpage_until_acknowledged) 5 1 (entry 1 (huge_page 0x0) 0x0)
larger_page =
    superpage_forbids acknowledged 1 answered refl 0x400000 (record { from = omega arith; below = omega arith }) (entry 1 (huge_page 0x0) 0x0)
    (record { canonical = inl (omega arith); aligned = refl }) refl

pub global_part : ClearForbids two_harts (history_of shootdowns.superpage_until_acknowledged) 5 1 (global_entry (small_page 0x401000) 0x100)
global_part =
    superpage_forbids acknowledged 1 answered refl 0x401000 (record { from = omega arith; below = omega arith }) (global_entry (small_page 0x401000) 0x100)
    (record { canonical = inl (omega arith); aligned = refl }) refl

-- the hart that asked, and the other one once the number of the ticket is given to another order
pub sender : ClearForbids two_harts (history_of shootdowns.superpage_shootdown) 5 0 (entry 1 (large_page 0x400000) 0x200)
sender = superpage_itself _ 0 (record { order = _; is = refl; same_cause = refl; named = refl; acked = refl }) refl

pub ticket_used_again : ClearForbids two_harts (history_of shootdowns.ticket_used_again) 5 1 (entry 1 (large_page 0x400000) 0x200)
ticket_used_again = superpage_itself _ 1 (record { order = _; is = refl; same_cause = refl; named = refl; acked = refl }) refl

pub pointer_stored : ClearForbids two_harts (history_of staleness.pointer_stored) 5 1 (entry 1 (large_page 0x400000) 0x200)
pointer_stored = superpage_itself _ 1 (record { order = _; is = refl; same_cause = refl; named = refl; acked = refl }) refl

pub refused_changes : ClearForbids two_harts (history_of staleness.refused_changes) 5 1 (entry 1 (large_page 0x400000) 0x200)
refused_changes = superpage_itself _ 1 (record { order = _; is = refl; same_cause = refl; named = refl; acked = refl }) refl

-- the page of space 0 is unmapped, and that of space 1 is mapped anew
pub other_space : ClearForbids shootdowns.spaces_of_one_home (history_of staleness.same_page_of_another_space) 15 1 (entry 1 (small_page 0x1000) 0x100)
other_space =
    clear_forbids shootdowns.spaces_of_one_home (history_of staleness.same_page_of_another_space) 15 1 (Some 1) (small_page 0x1000)
    (record { order = _; is = refl; same_cause = refl; named = refl; acked = refl }) refl 1 0x1000 refl (record { from = omega arith; below = omega arith })
    (entry 1 (small_page 0x1000) 0x100) (record { canonical = inl (omega arith); aligned = refl }) refl

-- the kernel page
kernel_page_forbids : (e : Entry) → IsPage e.page → (asid : ℕ) → IsTrue (is_match asid 0xffffffffc0000000 e)
    → ClearForbids kernel.spaces_of_two_homes (history_of kernel.kernel_page_until_acknowledged) 10 1 e
kernel_page_forbids e aligned asid on =
    clear_forbids kernel.spaces_of_two_homes (history_of kernel.kernel_page_until_acknowledged) 10 1 None (small_page 0xffffffffc0000000)
    (record { order = _; is = refl; same_cause = refl; named = refl; acked = refl }) refl asid 0xffffffffc0000000 tt
    (record { from = omega arith; below = omega arith }) e aligned on

pub kernel_page_global : ClearForbids kernel.spaces_of_two_homes (history_of kernel.kernel_page_until_acknowledged) 10 1 (global_entry (small_page 0xffffffffc0000000) 0x300)
kernel_page_global = kernel_page_forbids (global_entry (small_page 0xffffffffc0000000) 0x300) (record { canonical = inr (omega arith, omega arith); aligned = refl }) 0 refl

pub kernel_page_each_asid : (asid : ℕ) → ClearForbids kernel.spaces_of_two_homes (history_of kernel.kernel_page_until_acknowledged) 10 1 (entry asid (small_page 0xffffffffc0000000) 0x300)
kernel_page_each_asid asid =
    kernel_page_forbids (entry asid (small_page 0xffffffffc0000000) 0x300) (record { canonical = inr (omega arith, omega arith); aligned = refl }) asid (eq-eqb asid asid refl)

pub kernel_page_larger : (asid : ℕ) → ClearForbids kernel.spaces_of_two_homes (history_of kernel.kernel_page_until_acknowledged) 10 1 (entry asid (large_page 0xffffffffc0000000) 0x400)
kernel_page_larger asid =
    kernel_page_forbids (entry asid (large_page 0xffffffffc0000000) 0x400) (record { canonical = inr (omega arith, omega arith); aligned = refl }) asid (eq-eqb asid asid refl)

-- where Clear says nothing
pub unacknowledged : ClearAllowsAll two_harts (history_of shootdowns.superpage_until_service) 5 1
unacknowledged = unacked_clear two_harts (history_of shootdowns.superpage_until_service) 5 1 refl

pub unnamed : ClearAllowsAll two_harts (history_of staleness.unnamed_hart) 5 1
unnamed = unnamed_clear two_harts (history_of staleness.unnamed_hart) 5 1 refl

pub mapped_anew : ClearAllowsAll two_harts (history_of staleness.small_page_mapped_anew) 5 1
mapped_anew = anew_clear two_harts (history_of staleness.small_page_mapped_anew) 5 1 refl

-- a change of flags is no unmapping
pub protected : ClearAllowsAll two_harts (history_of staleness.held_read_only) 5 1
protected = other_cause_clear two_harts (history_of staleness.held_read_only) 5 1 _ refl (λ place page e. absurd cc)

-- a page right before the superpage, and one right behind it
neighbour : (base : ℕ) → (base + bytes_of Kib4 ≤ 0x400000) ⊎ (0x600000 ≤ base) → Clear two_harts acknowledged (entry 1 (small_page base) 0x100 ∷ []) 5 1
neighbour base apart =
    clear_allows two_harts acknowledged 5 1 _ (Some 1) (large_page 0x400000) refl refl (entry 1 (small_page base) 0x100 ∷ [])
    (λ asid va for held t.
    let on = and_parts (holds (small_page base) va) (false || (1 == asid)) (one_match (entry 1 (small_page base) 0x100) asid va t) in
    let there = (holds-Holds (small_page base) va).0 on.0 in
    by_side base va held there apart)

pub page_before : Clear two_harts (history_of shootdowns.superpage_until_acknowledged) (entry 1 (small_page 0x3ff000) 0x100 ∷ []) 5 1
page_before = neighbour 0x3ff000 (inl (omega arith))

pub page_behind : Clear two_harts (history_of shootdowns.superpage_until_acknowledged) (entry 1 (small_page 0x600000) 0x100 ∷ []) 5 1
page_behind = neighbour 0x600000 (inr (omega arith))

-- the page of another space
abbrev of_space_1 : Entry
of_space_1 = read_only_entry 2 (small_page 0x1000) 0x101

space_1_held : entries_of shootdowns.spaces_of_one_home (history_of staleness.same_page_of_another_space) 1 ≡ of_space_1 ∷ []
unfolding kind_of wish_fault path_end edit_of
space_1_held = refl

pub other_asid : Clear shootdowns.spaces_of_one_home (history_of staleness.same_page_of_another_space)
    (entries_of shootdowns.spaces_of_one_home (history_of staleness.same_page_of_another_space) 1) 15 1
other_asid =
    clear_allows shootdowns.spaces_of_one_home (history_of staleness.same_page_of_another_space) 15 1 _ (Some 1) (small_page 0x1000) refl refl
    (entries_of shootdowns.spaces_of_one_home (history_of staleness.same_page_of_another_space) 1)
    (λ asid va for held t.
    let one = subst (λ es. Translates (IsMappedBy es) asid va) space_1_held t in
    let on = and_parts (holds (small_page 0x1000) va) (false || (2 == asid)) (one_match of_space_1 asid va one) in
    let same : 2 ≡ asid = eqb-true 2 asid on.1 in
    omega (arith, same, for))
