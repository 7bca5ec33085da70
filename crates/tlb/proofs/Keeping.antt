-- What a fence, a service and a fill keep of what holds of each entry.
use Rattle.std.proofs.Common.{◌≡◌, ap, refl, false, None, Some, ℕ, ◌+◌, ◌-◌, ◌<◌, ◌≤◌, Bool, true, Option, List, [], ◌∷◌, ◌++◌, length, drop, filter, arith, length-append, length-drop}
use Rattle.std.specs.Prelude.{◌⊎◌, not, All, Contains, IsTrue}
use Rattle.std.specs.List.{AllPass}
use Rattle.std.proofs.lemmas.List.Elements.{All-nil, All-push, All-drop, All-filter, All-contains, All-contains_itself, filter_passes, Contains-push_cases}
use Rattle.std.proofs.lemmas.List.Sums.{length-filter, count_by-le-length}
use Rattle.pte.specs.declared.scheme.Scheme.{Scheme}
use Rattle.pte.specs.Address.{IsPage, holds, is_canonical}
use Rattle.std.specs.Prelude.{◌&&◌}
use Rattle.std.proofs.lemmas.Bool.{and_parts}
use Rattle.pte.specs.declared.address.What.{What}
use Rattle.tlb.specs.declared.store.Entry.{Entry}
use Rattle.tlb.specs.Entries.{filled, IsTlb}
use Rattle.tlb.specs.declared.store.TheConstants.{TLB_SIZE}
use Rattle.tlb.specs.Fence.{fenced, is_fenced, is_of_space}
use Rattle.tlb.specs.Service.{is_dropped, after_service}

length-filter-le : (p : Entry → Bool) (entries : List Entry) → length (filter p entries) ≤ length entries
length-filter-le p entries = omega (arith, length-filter p entries, count_by-le-length p entries)

pub All-filled : (P : Entry → Type 0) (entries : List Entry) (e : Entry) → All P entries → P e → All P (filled entries e)
All-filled P entries e all new = All-drop P _ _ (All-push P entries e all new)

-- a fill of a TLB with room, and of a full one
pub filled_with_room : (entries : List Entry) (e : Entry) → length entries < TLB_SIZE → filled entries e ≡ entries ++ e ∷ []
filled_with_room entries e room =
    let none : length (entries ++ e ∷ []) - TLB_SIZE ≡ 0 = omega (arith, length-append entries (e ∷ [])) in
    ap (λ n. drop n (entries ++ e ∷ [])) none

pub filled_when_full : (oldest e : Entry) (others : List Entry) → length others + 1 ≡ TLB_SIZE → filled (oldest ∷ others) e ≡ others ++ e ∷ []
filled_when_full oldest e others full =
    let one : length ((oldest ∷ others) ++ e ∷ []) - TLB_SIZE ≡ 1 = omega (arith, length-append (oldest ∷ others) (e ∷ [])) in
    ap (λ n. drop n ((oldest ∷ others) ++ e ∷ [])) one

pub IsTlb-nil : IsTlb []
IsTlb-nil = record { size = omega arith; pages = All-nil (λ e. IsPage e.page) }

pub IsTlb-filter : (p : Entry → Bool) (entries : List Entry) → IsTlb entries → IsTlb (filter p entries)
IsTlb-filter p entries tlb = record { size = omega (arith, length-filter-le p entries, tlb.size); pages = All-filter p (λ e. IsPage e.page) entries tlb.pages }

pub IsTlb-filled : (entries : List Entry) (e : Entry) → IsTlb entries → IsPage e.page → IsTlb (filled entries e)
IsTlb-filled entries e tlb page = record {
  size = omega (arith, length-drop (length (entries ++ e ∷ []) - TLB_SIZE) (entries ++ e ∷ []));
  pages = All-filled (λ x. IsPage x.page) entries e tlb.pages page;
}

pub AllPass-fenced : (scheme : Scheme) (p : Entry → Bool) (entries : List Entry) (rs1 rs2 : Option ℕ) → AllPass p entries → AllPass p (fenced scheme entries rs1 rs2)
AllPass-fenced scheme p entries rs1 rs2 all = All-filter (λ e. not (is_fenced scheme rs1 rs2 e)) (λ e. p e ≡ true) entries all

pub AllPass-served : (p : Entry → Bool) (entries : List Entry) (what : What) → AllPass p entries → AllPass p (after_service entries what)
AllPass-served p entries what all = All-filter (λ e. not (is_dropped what e)) (λ e. p e ≡ true) entries all

pub AllPass-filled : (p : Entry → Bool) (entries : List Entry) (e : Entry) → AllPass p entries → IsTrue (p e) → AllPass p (filled entries e)
AllPass-filled p entries e all new = All-filled (λ x. p x ≡ true) entries e all new

pub fenced_are_gone : (scheme : Scheme) (entries : List Entry) (rs1 rs2 : Option ℕ) → AllPass (λ e. not (is_fenced scheme rs1 rs2 e)) (fenced scheme entries rs1 rs2)
fenced_are_gone scheme entries rs1 rs2 = filter_passes (λ e. not (is_fenced scheme rs1 rs2 e)) entries

pub served_are_gone : (entries : List Entry) (what : What) → AllPass (λ e. not (is_dropped what e)) (after_service entries what)
served_are_gone entries what = filter_passes (λ e. not (is_dropped what e)) entries

-- what is left or filled was there or is new
pub Contains-filter : (p : Entry → Bool) (entries : List Entry) (e : Entry) → Contains (filter p entries) e → Contains entries e
Contains-filter p entries e at = All-contains (Contains entries) (filter p entries) e (All-filter p (Contains entries) entries (All-contains_itself entries)) at

pub Contains-filled : (entries : List Entry) (new e : Entry) → Contains (filled entries new) e → Contains entries e ⊎ (new ≡ e)
Contains-filled entries new e at =
    let all = entries ++ new ∷ [] in
    let gone = length all - TLB_SIZE in
    Contains-push_cases entries new e (All-contains (Contains all) (drop gone all) e (All-drop (Contains all) gone all (All-contains_itself all)) at)

-- a fence of every address and every ASID leaves nothing
pub fenced_all : (scheme : Scheme) (entries : List Entry) → fenced scheme entries None None ≡ []
fenced_all scheme [] = refl
fenced_all scheme (e ∷ entries) = fenced_all scheme entries

-- a fence for an address that is not canonical leaves all
pub fenced_none : (scheme : Scheme) (entries : List Entry) (rs1 : ℕ) (rs2 : Option ℕ) → is_canonical scheme rs1 ≡ false → fenced scheme entries (Some rs1) rs2 ≡ entries
fenced_none scheme [] rs1 rs2 off = refl
fenced_none scheme (e ∷ entries) rs1 None off = rw off (ap (λ (es : List Entry). e ∷ es) (fenced_none scheme entries rs1 None off))
fenced_none scheme (e ∷ entries) rs1 (Some asid) off = rw off (ap (λ (es : List Entry). e ∷ es) (fenced_none scheme entries rs1 (Some asid) off))

-- what a fence for an address takes out holds the address
pub fenced_holds : (scheme : Scheme) (va : ℕ) (rs2 : Option ℕ) (e : Entry)
    → is_fenced scheme (Some va) rs2 e ≡ true → holds e.page va ≡ true
fenced_holds scheme va None e goes = (and_parts (is_canonical scheme va) (holds e.page va) goes).1
fenced_holds scheme va (Some rs2) e goes =
    let both = and_parts (is_canonical scheme va && holds e.page va) (is_of_space rs2 e) goes in
    (and_parts (is_canonical scheme va) (holds e.page va) both.0).1

pub ruleset fills = (filled_with_room, filled_when_full)
