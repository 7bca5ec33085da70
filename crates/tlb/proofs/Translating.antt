-- A look-up finds an entry exactly if the set of mappings translates the address.
use Rattle.std.proofs.Common.{◌≡◌, ℕ, ◌+◌, ◌%◌, ◌<◌, ◌≤◌, Bool, true, false, Some, None, Option, IsTrue, List, [], ◌∷◌, sym, ◌∙◌, ap, subst, refl, inl, inr, arith}
use Rattle.std.specs.Prelude.{◌↔◌, ◌⊎◌, ◌==◌, ◌||◌, if◌then◌else◌, IsSome, All, Contains, find}
use Rattle.std.specs.List.{AllByRecursion}
use Rattle.std.proofs.lemmas.Bool.{and_parts, and_from, cases_Bool, true≢false, eqb-true, eq-eqb}
use Rattle.std.proofs.lemmas.List.Elements.{All-from_recursion, recursion_from_All, All-contains, All-contains_itself}
use Rattle.std.proofs.lemmas.Option.{none-some}
use Rattle.pte.specs.declared.address.PageSize.{PageSize}
use Rattle.pte.specs.declared.address.PageSize.TheVariants.{Kib4, Mib2, Gib1, Gib512}
use Rattle.pte.specs.Address.{Span, IsPage, Holds, bytes_of, pages_of}
use Rattle.walk.specs.Maps.{page_number, LiesIn}
use Rattle.tlb.specs.declared.store.Entry.{Entry}
use Rattle.tlb.specs.Entries.{holds, is_match, first_match}
use Rattle.tlb.specs.Mappings.{Mapping, IsMappedBy, Translates}
use Rattle.tlb.proofs.Overlapping.{holds-Holds}

-- what is found is an element that passes
found_of : {X : Type 0} (p : X → Bool) (P : X → Type 0) (xs : List X) (x : X) → AllByRecursion P xs → find p xs ≡ Some x → P x × (p x ≡ true)
found_of p P [] x all e = cc
found_of p P (y ∷ ys) x all e =
    elim (cases_Bool (p y)) [
      | inl on ↦ let found : Some y ≡ Some x = rw on at e in let same : y ≡ x = cc in (subst P same all.0, ap p (sym same) ∙ on)
      | inr off ↦ found_of p P ys x all.1 (rw off at e)
    ]

pub find-Some : {X : Type 0} (p : X → Bool) (xs : List X) (x : X) → find p xs ≡ Some x → Contains xs x × (p x ≡ true)
find-Some p xs x e = found_of p (Contains xs) xs x (recursion_from_All (Contains xs) xs (All-contains_itself xs)) e

-- where nothing is found no element passes
passed_over : {X : Type 0} (p : X → Bool) (xs : List X) → find p xs ≡ None → AllByRecursion (λ x. p x ≡ false) xs
passed_over p [] e = tt
passed_over p (y ∷ ys) e =
    elim (cases_Bool (p y)) [
      | inl on ↦ let found : Some y ≡ None = rw on at e in cc
      | inr off ↦ (off, passed_over p ys (rw off at e))
    ]

pub find-None : {X : Type 0} (p : X → Bool) (xs : List X) (x : X) → find p xs ≡ None → Contains xs x → p x ≡ false
find-None p xs x e at = All-contains (λ y. p y ≡ false) xs x (All-from_recursion (λ y. p y ≡ false) xs (passed_over p xs e)) at

-- the page of 4 KiB that an address of an aligned page lies in is a part of it
part_of : (size : PageSize) (base va : ℕ) → base % bytes_of size ≡ 0 → base ≤ va → va < base + bytes_of size → LiesIn (record { base = base; size = size }) (page_number va)
part_of Kib4 base va aligned from below = record { from = omega arith; to = omega arith }
part_of Mib2 base va aligned from below = record { from = omega arith; to = omega arith }
part_of Gib1 base va aligned from below = record { from = omega arith; to = omega arith }
part_of Gib512 base va aligned from below = record { from = omega arith; to = omega arith }

pub lies_in : (page : Span) (va : ℕ) → IsPage page → Holds page va → LiesIn page (page_number va)
lies_in page va is h = part_of page.size page.base va is.aligned h.from h.below

-- and an address whose page of 4 KiB is a part lies in the page
pub held_by : (page : Span) (va : ℕ) → LiesIn page (page_number va) → Holds page va
held_by page va part = record { from = omega (arith, part.from); below = omega (arith, part.to) }

-- the mapping that an entry has of the page of 4 KiB with a number
mapping_of : Entry → ℕ → Mapping
mapping_of e number = record { asid = if e.global then None else Some e.asid; page = number; ppn = e.ppn + number % pages_of e.page.size; flags = e.flags }

-- an entry is for an ASID exactly if its mappings are
for_asid : (global : Bool) (own asid : ℕ) → IsTrue (global || (own == asid)) → (let o : Option ℕ = if global then None else Some own in (o ≡ None) ⊎ (o ≡ Some asid))
for_asid true own asid on = inl refl
for_asid false own asid on = inr (ap Some (eqb-true own asid on))

asid_from : (global : Bool) (own asid : ℕ) (o : Option ℕ) → o ≡ (if global then None else Some own) → (o ≡ None) ⊎ (o ≡ Some asid) → IsTrue (global || (own == asid))
asid_from true own asid o is at = refl
asid_from false own asid o is (inl none) = absurd (none-some own (sym none ∙ is))
asid_from false own asid o is (inr some) = let same : own ≡ asid = cc in eq-eqb own asid same

pub match_translates : (entries : List Entry) (asid va : ℕ) (e : Entry) → IsPage e.page → Contains entries e → IsTrue (is_match asid va e) → Translates (IsMappedBy entries) asid va
unfolding mapping_of
match_translates entries asid va e page at on =
    let parts = and_parts (holds e.page va) (e.global || (e.asid == asid)) on in
    let h = (holds-Holds e.page va).0 parts.0 in
    record {
      mapping = mapping_of e (page_number va);
      member = (e, at, record { asid = refl; page = lies_in e.page va page h; ppn = refl; flags = refl });
      space = for_asid e.global e.asid asid parts.1;
      page = refl;
    }

-- a set that translates an address has an entry that matches it
pub translated_match : (entries : List Entry) (asid va : ℕ) → Translates (IsMappedBy entries) asid va → (e : Entry) × Contains entries e × IsTrue (is_match asid va e)
translated_match entries asid va t =
    let e = t.member.0 in
    let of = t.member.2 in
    let h : Holds e.page va = held_by e.page va (let P : ℕ → Type 0 = λ n. LiesIn e.page n in subst P t.page of.page) in
    (e, t.member.1, and_from _ _ ((holds-Holds e.page va).1 h) (asid_from e.global e.asid asid t.mapping.asid of.asid t.space))

some_found : (o : Option Entry) → (¬ (o ≡ None)) → IsSome o
some_found None some = absurd (some refl)
some_found (Some e) some = refl

found_translates : (entries : List Entry) (asid va : ℕ) → All (λ e. IsPage e.page) entries → (o : Option Entry) → first_match entries asid va ≡ o → IsSome o → Translates (IsMappedBy entries) asid va
found_translates entries asid va pages None is some = absurd (true≢false (sym some))
found_translates entries asid va pages (Some e) is some =
    let found = find-Some (is_match asid va) entries e is in
    match_translates entries asid va e (All-contains (λ x. IsPage x.page) entries e pages found.0) found.0 found.1

pub first_match_translates : (entries : List Entry) (asid va : ℕ) → All (λ e. IsPage e.page) entries → IsSome (first_match entries asid va) ↔ Translates (IsMappedBy entries) asid va
first_match_translates entries asid va pages = (
  (λ some. found_translates entries asid va pages (first_match entries asid va) refl some),
  (λ t.
      let m = translated_match entries asid va t in
      some_found (first_match entries asid va) (λ none. true≢false (sym m.2 ∙ find-None (is_match asid va) entries m.0 none m.1))),
)
