-- What Clear and Coherent forbid hart 1 to hold of the pages of the worked runs with Sv48.
use Rattle.std.proofs.Common.{◌≡◌, ℕ, ◌+◌, ◌⊎◌, ◌||◌, ◌==◌, false, [], ◌∷◌, Some, IsTrue, refl, arith, inl, inr}
use Rattle.std.proofs.lemmas.Bool.{and_parts}
use Rattle.pte.specs.declared.permission.Access.TheVariants as access
use Rattle.pte.specs.declared.scheme.Scheme.TheVariants.{Sv48}
use Rattle.pte.specs.Address.{IsPage, Holds}
use Rattle.pte.specs.Entry.{kind_of}
use Rattle.spaces.specs.Edits.{wish_fault, path_end, edit_of}
use Rattle.tlb.specs.declared.store.Entry.{Entry}
use Rattle.tlb.specs.Entries.{holds, is_match}
use Rattle.tlb.proofs.Overlapping.{holds-Holds}
use Rattle.history.specs.Orders.{Unmapped}
use Rattle.history.specs.Staleness.{HasAnswered, IsMapped, Clear}
use Rattle.history.specs.Tables.{words_of}
use Rattle.history.specs.Turns.{History}
use Rattle.counterexamples.specs.WorkedRuns.{history_of, huge_page, small_page, large_page, flags, R, W, U, A, D, user}
use Rattle.counterexamples.specs.Sv48Runs as run
use Rattle.counterexamples.specs.Sv48Runs.{terapage, two_harts_in_sv48}
use Rattle.counterexamples.specs.WorkedEntries.{entry, global_entry}
use Rattle.counterexamples.specs.Counterexamples.{ClearForbids, CoherentForbids}
use Rattle.counterexamples.proofs.Promises.{clear_forbids, clear_allows, coherent_forbids, not_mapped, one_match}
use Rattle.counterexamples.proofs.TerapageEntries.{terapage_is_page}

-- ---- Clear: the page of 512 GiB that hart 0 unmapped, and the small page below four tables
abbrev acknowledged : History
acknowledged = history_of run.terapage_until_acknowledged

answered : HasAnswered two_harts_in_sv48 acknowledged 3 1 (Unmapped (Some 1) (terapage 0x8000000000))
answered = record { order = _; is = refl; same_cause = refl; named = refl; acked = refl }

terapage_forbids : (va : ℕ) → Holds (terapage 0x8000000000) va → (e : Entry) → IsPage e.page → IsTrue (is_match 1 va e) → ClearForbids two_harts_in_sv48 acknowledged 3 1 e
terapage_forbids va held e aligned on = clear_forbids two_harts_in_sv48 acknowledged 3 1 (Some 1) (terapage 0x8000000000) answered refl 1 va refl held e aligned on

pub page_itself : ClearForbids two_harts_in_sv48 (history_of run.terapage_until_acknowledged) 3 1 (entry 1 (terapage 0x8000000000) 0x10000000)
page_itself = terapage_forbids 0x8000000000 (record { from = omega arith; below = omega arith }) (entry 1 (terapage 0x8000000000) 0x10000000) terapage_is_page refl

pub last_small_part : ClearForbids two_harts_in_sv48 (history_of run.terapage_until_acknowledged) 3 1 (entry 1 (small_page 0xfffffff000) 0x17ffffff)
last_small_part =
    terapage_forbids 0xfffffff000 (record { from = omega arith; below = omega arith }) (entry 1 (small_page 0xfffffff000) 0x17ffffff)
    (record { canonical = inl (omega arith); aligned = refl }) refl

pub last_huge_part : ClearForbids two_harts_in_sv48 (history_of run.terapage_until_acknowledged) 3 1 (entry 1 (huge_page 0xffc0000000) 0x17fc0000)
last_huge_part =
    terapage_forbids 0xffc0000000 (record { from = omega arith; below = omega arith }) (entry 1 (huge_page 0xffc0000000) 0x17fc0000)
    (record { canonical = inl (omega arith); aligned = refl }) refl

pub global_part : ClearForbids two_harts_in_sv48 (history_of run.terapage_until_acknowledged) 3 1 (global_entry (large_page 0x8000000000) 0x200)
global_part =
    terapage_forbids 0x8000000000 (record { from = omega arith; below = omega arith }) (global_entry (large_page 0x8000000000) 0x200)
    (record { canonical = inl (omega arith); aligned = refl }) refl

pub page_around : ClearForbids two_harts_in_sv48 (history_of run.four_levels_until_acknowledged) 9 1 (entry 1 (terapage 0x7f8000000000) 0x10000000)
page_around =
    clear_forbids two_harts_in_sv48 (history_of run.four_levels_until_acknowledged) 9 1 (Some 1) (small_page 0x7ffffffff000)
    (record { order = _; is = refl; same_cause = refl; named = refl; acked = refl }) refl 1 0x7ffffffff000 refl
    (record { from = omega arith; below = omega arith }) (entry 1 (terapage 0x7f8000000000) 0x10000000)
    (record { canonical = inl (omega arith); aligned = refl }) refl

-- the pages of 1 GiB right before the page and right behind it
by_side : (base va : ℕ) → Holds (terapage 0x8000000000) va → Holds (huge_page base) va → (base ≡ 0x7fc0000000) ⊎ (base ≡ 0x10000000000) → ⊥
by_side base va held there (inl before) = omega (arith, held.from, there.below, before)
by_side base va held there (inr behind) = omega (arith, held.below, there.from, behind)

neighbour : (base : ℕ) → (base ≡ 0x7fc0000000) ⊎ (base ≡ 0x10000000000) → Clear two_harts_in_sv48 acknowledged (entry 1 (huge_page base) 0x40000 ∷ []) 3 1
neighbour base apart =
    clear_allows two_harts_in_sv48 acknowledged 3 1 _ (Some 1) (terapage 0x8000000000) refl refl (entry 1 (huge_page base) 0x40000 ∷ [])
    (λ asid va for held t.
    let on = and_parts (holds (huge_page base) va) (false || (1 == asid)) (one_match (entry 1 (huge_page base) 0x40000) asid va t) in
    let there = (holds-Holds (huge_page base) va).0 on.0 in
    by_side base va held there apart)

pub page_before : Clear two_harts_in_sv48 (history_of run.terapage_until_acknowledged) (entry 1 (huge_page 0x7fc0000000) 0x40000 ∷ []) 3 1
page_before = neighbour 0x7fc0000000 (inl refl)

pub page_behind : Clear two_harts_in_sv48 (history_of run.terapage_until_acknowledged) (entry 1 (huge_page 0x10000000000) 0x40000 ∷ []) 3 1
page_behind = neighbour 0x10000000000 (inr refl)

-- ---- Coherent: nothing of the page is mapped
terapage_gone : ¬ IsMapped two_harts_in_sv48 (words_of two_harts_in_sv48 (history_of run.terapage_shootdown)) 0 (record { asid = Some 1; page = 0xfffffff; ppn = 0x17ffffff; flags = flags (R + W + U + A + D) })
unfolding kind_of wish_fault path_end edit_of
terapage_gone m =
    not_mapped Sv48 (words_of two_harts_in_sv48 (history_of run.terapage_shootdown)) 0x80001 0xfffffff000 0x17ffffff access.Load user (flags (R + W + U + A + D)) _
    (inl (omega arith)) refl refl m

pub nothing_mapped : CoherentForbids two_harts_in_sv48 (history_of run.terapage_shootdown) 3 1 (entry 1 (small_page 0xfffffff000) 0x17ffffff)
nothing_mapped =
    coherent_forbids two_harts_in_sv48 (history_of run.terapage_shootdown) 3 1 (Unmapped (Some 1) (terapage 0x8000000000)) (Some 1) (terapage 0x8000000000) (inl refl)
    (record { order = _; is = refl; same_cause = refl; named = refl; acked = refl }) refl (entry 1 (small_page 0xfffffff000) 0x17ffffff)
    (record { asid = Some 1; page = 0xfffffff; ppn = 0x17ffffff; flags = flags (R + W + U + A + D) })
    (record { asid = refl; page = record { from = omega arith; to = omega arith }; ppn = refl; flags = refl })
    (inr (1, refl, refl)) (record { from = omega arith; to = omega arith }) 0 (record { there = omega arith; kept = refl; same = refl }) terapage_gone
