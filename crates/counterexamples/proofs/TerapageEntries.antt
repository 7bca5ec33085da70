-- What hart 1 holds of the page of 512 GiB of the worked shootdown, before and after its service of
-- the request.
use Rattle.std.proofs.Common.{◌≡◌, ℕ, ◌+◌, ◌*◌, ◌<◌, List, [], ◌∷◌, refl, sym, subst, arith, inl}
use Rattle.std.proofs.lemmas.Bool.{and_from}
use Rattle.pte.specs.declared.address.PageSize.TheVariants.{Kib4, Gib512}
use Rattle.pte.specs.Address.{IsPage, Holds, bytes_of, pages_of}
use Rattle.pte.specs.Entry.{kind_of}
use Rattle.spaces.specs.Edits.{wish_fault, path_end, edit_of}
use Rattle.tlb.specs.declared.store.Entry.{Entry}
use Rattle.tlb.specs.Mappings.{IsMappedBy, Translates}
use Rattle.tlb.proofs.Overlapping.{holds-Holds}
use Rattle.tlb.proofs.Translating.{match_translates, translated_match}
use Rattle.history.specs.Harts.{entries_of}
use Rattle.counterexamples.specs.WorkedRuns.{history_of}
use Rattle.counterexamples.specs.Sv48Runs as run
use Rattle.counterexamples.specs.Sv48Runs.{terapage, two_harts_in_sv48}
use Rattle.counterexamples.specs.WorkedEntries.{entry}

held_until_service : entries_of two_harts_in_sv48 (history_of run.terapage_until_service) 1 ≡ entry 1 (terapage 0x8000000000) 0x10000000 ∷ []
unfolding kind_of wish_fault path_end edit_of
held_until_service = refl

none_once_acknowledged : entries_of two_harts_in_sv48 (history_of run.terapage_until_acknowledged) 1 ≡ []
unfolding kind_of wish_fault path_end edit_of
none_once_acknowledged = refl

pub terapage_is_page : IsPage (terapage 0x8000000000)
terapage_is_page = record { canonical = inl (omega arith); aligned = refl }

-- the page holds each of its small pages
small_page_held : (k : ℕ) → k < pages_of Gib512 → Holds (terapage 0x8000000000) (0x8000000000 + k * bytes_of Kib4)
small_page_held k below = record { from = omega arith; below = omega (arith, below) }

pub translated_until_service : (k : ℕ) → k < pages_of Gib512
    → Translates (IsMappedBy (entries_of two_harts_in_sv48 (history_of run.terapage_until_service) 1)) 1 (0x8000000000 + k * bytes_of Kib4)
translated_until_service k below =
    let va = 0x8000000000 + k * bytes_of Kib4 in
    let P : List Entry → Type 0 = λ es. Translates (IsMappedBy es) 1 va in
    let matches = and_from _ _ ((holds-Holds (terapage 0x8000000000) va).1 (small_page_held k below)) refl in
    subst P (sym held_until_service)
    (match_translates (entry 1 (terapage 0x8000000000) 0x10000000 ∷ []) 1 va (entry 1 (terapage 0x8000000000) 0x10000000) terapage_is_page (0, omega arith, refl) matches)

pub none_translated_once_acknowledged : (asid va : ℕ) → ¬ Translates (IsMappedBy (entries_of two_harts_in_sv48 (history_of run.terapage_until_acknowledged) 1)) asid va
none_translated_once_acknowledged asid va t =
    let P : List Entry → Type 0 = λ es. Translates (IsMappedBy es) asid va in
    let found = translated_match [] asid va (subst P none_once_acknowledged t) in
    omega (arith, found.1.1)
