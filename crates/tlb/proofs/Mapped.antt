-- The mappings that are left after a fence, a service or a fill, and the pages that they reach.
use Rattle.std.proofs.Common.{◌≡◌, ℕ, ◌%◌, ◌^◌, ◌<◌, Bool, true, false, Some, None, Option, IsTrue, List, sym, ◌∙◌, ap, subst, refl, inl, inr, arith}
use Rattle.std.specs.Prelude.{◌⊎◌, ◌==◌, ◌&&◌, ◌||◌, not, Contains, slice_index_or}
use Rattle.std.specs.List.{AllPass}
use Rattle.std.proofs.lemmas.Bool.{and_parts, and_from, not-true, true≢false}
use Rattle.std.proofs.lemmas.List.Elements.{All-contains}
use Rattle.pte.specs.declared.scheme.Scheme.{Scheme}
use Rattle.pte.specs.declared.address.What.{What}
use Rattle.pte.specs.declared.address.What.TheVariants.{PageOf}
use Rattle.pte.specs.Address.{Span, Holds}
use Rattle.tlb.specs.declared.store.Entry.{Entry}
use Rattle.tlb.specs.Entries.{filled, holds, is_match}
use Rattle.tlb.specs.Fence.{fenced, is_fenced}
use Rattle.pte.specs.declared.TheConstants.{ASID_BITS}
use Rattle.tlb.specs.Mappings.{Mapping, IsMappingOf, IsMappedBy, Translates, maps_into}
use Rattle.tlb.specs.Service.{is_dropped, overlaps, after_service}
use Rattle.tlb.proofs.Keeping.{Contains-filter, Contains-filled, served_are_gone, AllPass-served}
use Rattle.tlb.proofs.Overlapping.{holds-Holds, overlaps-Overlap}
use Rattle.tlb.proofs.Translating.{translated_match}

pub IsMappedBy-fenced : (scheme : Scheme) (entries : List Entry) (rs1 rs2 : Option ℕ) (m : Mapping) → IsMappedBy (fenced scheme entries rs1 rs2) m → IsMappedBy entries m
IsMappedBy-fenced scheme entries rs1 rs2 m by = (by.0, Contains-filter (λ e. not (is_fenced scheme rs1 rs2 e)) entries by.0 by.1, by.2)

pub IsMappedBy-served : (entries : List Entry) (what : What) (m : Mapping) → IsMappedBy (after_service entries what) m → IsMappedBy entries m
IsMappedBy-served entries what m by = (by.0, Contains-filter (λ e. not (is_dropped what e)) entries by.0 by.1, by.2)

pub IsMappedBy-filled : (entries : List Entry) (e : Entry) (m : Mapping) → IsMappedBy (filled entries e) m → IsMappedBy entries m ⊎ IsMappingOf e m
IsMappedBy-filled entries e m by =
    elim (Contains-filled entries e by.0 by.1) [
      | inl old ↦ inl (by.0, old, by.2)
      | inr new ↦ inr (let P : Entry → Type 0 = λ x. IsMappingOf x m in subst P (sym new) by.2)
    ]

-- the entry that translates an address of a page maps into it
reaches : (page : Span) (va : ℕ) (e : Entry) (asid : ℕ) → Holds page va → IsTrue (is_match asid va e) → IsTrue (overlaps page e.page) × IsTrue (e.global || (e.asid == asid))
reaches page va e asid h on =
    let parts = and_parts (holds e.page va) (e.global || (e.asid == asid)) on in
    ((overlaps-Overlap page e.page).1 (va, h, (holds-Holds e.page va).0 parts.0), parts.1)

-- an entry that does not map into the page is none that does
not_both : (p : Entry → Bool) (entries : List Entry) (e : Entry) → AllPass (λ x. not (p x)) entries → Contains entries e → IsTrue (p e) → ⊥
not_both p entries e all at on = true≢false (sym on ∙ not-true _ (All-contains (λ x. not (p x) ≡ true) entries e all at))

pub space_is_clear : (entries : List Entry) (page : Span) (asid va : ℕ) → AllPass (λ e. not (maps_into page (Some asid) e)) entries → Holds page va → ¬ Translates (IsMappedBy entries) asid va
space_is_clear entries page asid va all h t =
    let m = translated_match entries asid va t in
    let on = reaches page va m.0 asid h m.2 in
    not_both (maps_into page (Some asid)) entries m.0 all m.1 (and_from _ _ on.0 on.1)

pub page_is_clear : (entries : List Entry) (page : Span) (asid va : ℕ) → AllPass (λ e. not (maps_into page None e)) entries → Holds page va → ¬ Translates (IsMappedBy entries) asid va
page_is_clear entries page asid va all h t =
    let m = translated_match entries asid va t in
    not_both (maps_into page None) entries m.0 all m.1 (reaches page va m.0 asid h m.2).0

pub served_global_page : (entries : List Entry) (page : Span) → AllPass (λ e. not (maps_into page None e)) (after_service entries (PageOf page None))
served_global_page entries page = served_are_gone entries (PageOf page None)

-- what is neither global in the page, nor dropped by the service of the page of an ASID, does not
-- map into it for that ASID
not_mapped : (over global : Bool) (own asid : ℕ) → asid < 2 ^ ASID_BITS → IsTrue (not (global && over)) → IsTrue (not (over && (not global && (own == asid % 2 ^ ASID_BITS)))) → IsTrue (not (over && (global || (own == asid))))
not_mapped false global own asid small a b = refl
not_mapped true true own asid small a b = absurd (true≢false (sym a))
not_mapped true false own asid small a b = let same : asid % 2 ^ ASID_BITS ≡ asid = omega arith in ap (λ n. not (own == n)) (sym same) ∙ b

pub served_space_page : (entries : List Entry) (page : Span) (asid : ℕ) → asid < 2 ^ ASID_BITS → AllPass (λ e. not (e.global && overlaps page e.page)) entries → AllPass (λ e. not (maps_into page (Some asid) e)) (after_service entries (PageOf page (Some asid)))
served_space_page entries page asid small all k d below =
    let e : Entry = slice_index_or (after_service entries (PageOf page (Some asid))) k d in
    not_mapped (overlaps page e.page) e.global e.asid asid small
    (AllPass-served (λ x. not (x.global && overlaps page x.page)) entries (PageOf page (Some asid)) all k d below)
    (served_are_gone entries (PageOf page (Some asid)) k d below)
