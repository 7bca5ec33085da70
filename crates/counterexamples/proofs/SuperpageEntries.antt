-- What hart 1 holds of the superpage of the worked shootdown, before and after its service of the
-- request.
use Rattle.std.proofs.Common.{◌≡◌, ℕ, ◌+◌, ◌*◌, ◌<◌, false, List, [], ◌∷◌, refl, sym, subst, arith, inl}
use Rattle.std.proofs.lemmas.Bool.{and_from}
use Rattle.pte.specs.declared.address.PageSize.TheVariants.{Kib4, Mib2}
use Rattle.pte.specs.Address.{IsPage, Holds, bytes_of, pages_of}
use Rattle.pte.specs.Entry.{kind_of}
use Rattle.spaces.specs.Edits.{wish_fault, path_end, edit_of}
use Rattle.tlb.specs.declared.store.Entry.{Entry}
use Rattle.tlb.specs.Mappings.{IsMappedBy, Translates}
use Rattle.tlb.proofs.Overlapping.{holds-Holds}
use Rattle.tlb.proofs.Translating.{match_translates, translated_match}
use Rattle.history.specs.Harts.{entries_of}
use Rattle.counterexamples.specs.WorkedRuns.{Step, history_of, large_page, two_harts, flags, R, W, U, A, D}
use Rattle.counterexamples.specs.ShootdownRuns.{superpage_until_service, superpage_until_acknowledged, ticket_used_again}

superpage_entry : Entry
superpage_entry = record { asid = 1; global = false; page = large_page 0x400000; ppn = 0x200; flags = flags (R + W + U + A + D) }

-- the entries of hart 1 after some steps
abbrev entries_after : List Step → List Entry
entries_after steps = entries_of two_harts (history_of steps) 1

held_until_service : entries_after superpage_until_service ≡ superpage_entry ∷ []
unfolding superpage_entry kind_of wish_fault path_end edit_of
held_until_service = refl

none_once_acknowledged : entries_after superpage_until_acknowledged ≡ []
unfolding kind_of wish_fault path_end edit_of
none_once_acknowledged = refl

none_when_used_again : entries_after ticket_used_again ≡ []
unfolding kind_of wish_fault path_end edit_of
none_when_used_again = refl

-- a list without entries translates nothing
none_of_nothing : (asid va : ℕ) → ¬ Translates (IsMappedBy []) asid va
none_of_nothing asid va t = let found = translated_match [] asid va t in omega (arith, found.1.1)

nothing_translated : (entries : List Entry) (asid va : ℕ) → entries ≡ [] → ¬ Translates (IsMappedBy entries) asid va
nothing_translated entries asid va none t =
    let P : List Entry → Type 0 = λ es. Translates (IsMappedBy es) asid va in
    none_of_nothing asid va (subst P none t)

-- the superpage holds each of its small pages
small_page_held : (k : ℕ) → k < pages_of Mib2 → Holds (large_page 0x400000) (0x400000 + k * bytes_of Kib4)
small_page_held k below = record { from = omega arith; below = omega (arith, below) }

superpage_is_page : IsPage (large_page 0x400000)
superpage_is_page = record { canonical = inl (omega arith); aligned = refl }

pub translated_until_service : (k : ℕ) → k < pages_of Mib2 → Translates (IsMappedBy (entries_after superpage_until_service)) 1 (0x400000 + k * bytes_of Kib4)
unfolding superpage_entry
translated_until_service k below =
    let va = 0x400000 + k * bytes_of Kib4 in
    let P : List Entry → Type 0 = λ es. Translates (IsMappedBy es) 1 va in
    let matches = and_from _ _ ((holds-Holds (large_page 0x400000) va).1 (small_page_held k below)) refl in
    subst P (sym held_until_service)
    (match_translates (superpage_entry ∷ []) 1 va superpage_entry superpage_is_page (0, omega arith, refl) matches)

pub none_translated_once_acknowledged : (va : ℕ) → Holds (large_page 0x400000) va → ¬ Translates (IsMappedBy (entries_after superpage_until_acknowledged)) 1 va
none_translated_once_acknowledged va held = nothing_translated (entries_after superpage_until_acknowledged) 1 va none_once_acknowledged

pub none_translated_when_used_again : (va : ℕ) → Holds (large_page 0x400000) va → ¬ Translates (IsMappedBy (entries_after ticket_used_again)) 1 va
none_translated_when_used_again va held = nothing_translated (entries_after ticket_used_again) 1 va none_when_used_again
