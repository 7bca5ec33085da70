-- Machines of which it is false that they hold no ASID, space or frame that is not in use.
use Rattle.std.proofs.Common.{◌≡◌, ℕ, zero, suc, ◌+◌, true, [], ◌∷◌, Option, Some, None, refl, sym, ap, ◌∙◌, arith}
use Rattle.std.proofs.lemmas.Bool.{true≢false, false≢true}
use Rattle.std.specs.Prelude.{is_some}
use Rattle.walk.specs.Stage.{Stage}
use Rattle.spaces.specs.Layout.{spare_ppn}
use Rattle.history.specs.Spaces.{Status, Live, holder_of, is_free, is_retiring}
use Rattle.history.specs.Turns.{History}
use Rattle.history.specs.Staleness.{HasAsid}
use Rattle.counterexamples.specs.WorkedEntries.{entry, global_entry}
use Rattle.counterexamples.specs.ShootdownRuns.{map_superpage, spaces_of_one_home}
use Rattle.counterexamples.specs.RetireRuns.{retired_and_given_back, retired_until_acknowledged}
use Rattle.counterexamples.specs.WorkedRuns.{history_of, small_page, two_harts}
use Rattle.counterexamples.specs.MachineCounterexamples.{machine_holding, machine_in, machine_walking, walk_to}
use Rattle.stepcore.specs.Runs.{HartsAreInLiveSpaces, TlbsHoldUsedAsids, WalksHoldUsedFrames}

-- ASIDs
abbrev given_back : History
given_back = history_of retired_and_given_back

none_has_2 : (s : ℕ) → ¬ HasAsid spaces_of_one_home given_back s 2
none_has_2 zero has = let same = has.same in omega (arith, same)
none_has_2 (suc zero) has = true≢false has.kept
none_has_2 (suc (suc s)) has = let there = has.there in omega (arith, there)

pub asids_kept : TlbsHoldUsedAsids spaces_of_one_home given_back (machine_holding (entry 1 (small_page 0x1000) 0x100 ∷ []) (global_entry (small_page 0x1000) 0x100 ∷ []))
asids_kept zero there zero d less = λ _. (0, record { there = omega arith; kept = refl; same = refl })
asids_kept zero there (suc n) d less = absurd (omega (arith, less))
asids_kept (suc zero) there zero d less = λ global. absurd (true≢false global)
asids_kept (suc zero) there (suc n) d less = absurd (omega (arith, less))
asids_kept (suc (suc hart)) there n d less = absurd (omega (arith, there))

pub asids_before : TlbsHoldUsedAsids spaces_of_one_home [] (machine_holding [] (entry 2 (small_page 0x1000) 0x100 ∷ []))
asids_before zero there n d less = absurd (omega (arith, less))
asids_before (suc zero) there zero d less = λ _. (1, record { there = omega arith; kept = refl; same = refl })
asids_before (suc zero) there (suc n) d less = absurd (omega (arith, less))
asids_before (suc (suc hart)) there n d less = absurd (omega (arith, there))

pub asids_of_0 : ¬ TlbsHoldUsedAsids spaces_of_one_home given_back (machine_holding (entry 2 (small_page 0x1000) 0x100 ∷ []) [])
asids_of_0 hold = let found = hold 0 (omega arith) 0 (entry 2 (small_page 0x1000) 0x100) (omega arith) refl in none_has_2 found.0 found.1

pub asids_of_1 : ¬ TlbsHoldUsedAsids spaces_of_one_home given_back (machine_holding [] (entry 2 (small_page 0x1000) 0x100 ∷ []))
asids_of_1 hold = let found = hold 1 (omega arith) 0 (entry 2 (small_page 0x1000) 0x100) (omega arith) refl in none_has_2 found.0 found.1

pub asids_of_youngest : ¬ TlbsHoldUsedAsids spaces_of_one_home given_back (machine_holding [] (entry 1 (small_page 0x1000) 0x100 ∷ entry 2 (small_page 0x1000) 0x100 ∷ []))
asids_of_youngest hold = let found = hold 1 (omega arith) 1 (entry 2 (small_page 0x1000) 0x100) (omega arith) refl in none_has_2 found.0 found.1

-- spaces
retiring_is_live : (status : Status) → is_retiring status ≡ true → status ≡ Live → ⊥
retiring_is_live status e live = true≢false (sym e ∙ ap is_retiring live)

free_is_live : (status : Status) → is_free status ≡ true → status ≡ Live → ⊥
free_is_live status e live = true≢false (sym e ∙ ap is_free live)

pub spaces_kept : HartsAreInLiveSpaces spaces_of_one_home given_back (machine_in 0 0)
spaces_kept zero there = refl
spaces_kept (suc zero) there = refl
spaces_kept (suc (suc hart)) there = absurd (omega (arith, there))

pub spaces_before : HartsAreInLiveSpaces spaces_of_one_home [] (machine_in 1 1)
spaces_before hart there = refl

pub space_of_0 : ¬ HartsAreInLiveSpaces spaces_of_one_home given_back (machine_in 1 0)
space_of_0 are = free_is_live _ refl (are 0 (omega arith))

pub space_of_1 : ¬ HartsAreInLiveSpaces spaces_of_one_home given_back (machine_in 0 1)
space_of_1 are = free_is_live _ refl (are 1 (omega arith))

pub space_retires : ¬ HartsAreInLiveSpaces spaces_of_one_home (history_of retired_until_acknowledged) (machine_in 0 1)
space_retires are = retiring_is_live _ refl (are 1 (omega arith))

-- frames
pub frame_of_0_by_0 : ¬ WalksHoldUsedFrames two_harts [] (machine_walking (Some 0x80002) None)
frame_of_0_by_0 hold = hold 0 (walk_to 0x80002) 0 0 (omega arith) refl (omega arith) refl refl

pub frame_of_1_by_0 : ¬ WalksHoldUsedFrames two_harts [] (machine_walking (Some 0x8000a) None)
frame_of_1_by_0 hold = hold 0 (walk_to 0x8000a) 1 0 (omega arith) refl (omega arith) refl refl

pub frame_of_0_by_1 : ¬ WalksHoldUsedFrames two_harts [] (machine_walking None (Some 0x80009))
frame_of_0_by_1 hold = hold 1 (walk_to 0x80009) 0 7 (omega arith) refl (omega arith) refl refl

pub frame_of_1_by_1 : ¬ WalksHoldUsedFrames two_harts [] (machine_walking None (Some 0x80011))
frame_of_1_by_1 hold = hold 1 (walk_to 0x80011) 1 7 (omega arith) refl (omega arith) refl refl

-- frame 0x80002 is in use for space 0
abbrev table_of : Option Stage → ℕ
table_of None = 0
table_of (Some walk) = walk.table

pub frame_in_use : WalksHoldUsedFrames two_harts (history_of map_superpage) (machine_walking None (Some 0x80002))
frame_in_use zero walk owner n there is less unused same = false≢true (ap is_some is)
frame_in_use (suc zero) walk owner n there is less unused same =
    let frame : 0x80002 ≡ spare_ppn two_harts.layout owner + n = ap table_of is ∙ same in
    let none : holder_of (history_of map_superpage) 0x80002 ≡ None = ap (holder_of (history_of map_superpage)) frame ∙ unused in
    true≢false (ap is_some none)
frame_in_use (suc (suc hart)) walk owner n there is less unused same = omega (arith, there)
