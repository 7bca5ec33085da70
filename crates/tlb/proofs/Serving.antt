-- An entry goes by the one test exactly if it does not stay under the request's fences.
use Rattle.std.proofs.Common.{◌≡◌, ℕ, Some, None, IsTrue, sym, ◌∙◌, refl, List}
use Rattle.std.specs.Prelude.{◌↔◌, not}
use Rattle.std.proofs.lemmas.Bool.{and_parts, and_from, not-true, not_from_false, false_from_ne_true, true≢false}
use Rattle.std.proofs.lemmas.List.Elements.{filter_agree}
use Rattle.pte.specs.declared.scheme.Scheme.{Scheme}
use Rattle.pte.specs.declared.address.What.{What}
use Rattle.pte.specs.declared.address.What.TheVariants.{PageOf, SpaceOf, All}
use Rattle.pte.specs.Address.{Span, IsPageOf, Holds, is_canonical}
use Rattle.walk.proofs.Unique.{same_bool}
use Rattle.tlb.specs.declared.store.Entry.{Entry}
use Rattle.tlb.specs.Entries.{holds}
use Rattle.pte.proofs.Schemes.{is_canonical-IsCanonical}
use Rattle.tlb.specs.Fence.{is_of_address, is_of_space}
use Rattle.tlb.specs.Service.{overlaps, is_dropped, after_service, Goes, IsRequest, Served, Stays}
use Rattle.tlb.proofs.Overlapping.{holds-Holds, overlaps-Overlap, Holds-canonical}

-- an entry whose page overlaps a page is of some address of it
of_some_address : (scheme : Scheme) (p : Span) (e : Entry) → IsPageOf scheme p → IsTrue (overlaps p e.page) → (va : ℕ) × Holds p va × IsTrue (is_of_address scheme va e)
of_some_address scheme p e page on =
    let o = (overlaps-Overlap p e.page).0 on in
    (o.0, o.1, and_from _ _ ((is_canonical-IsCanonical scheme o.0).1 (Holds-canonical scheme p o.0 page o.1)) ((holds-Holds e.page o.0).1 o.2))

overlaps_from_address : (scheme : Scheme) (p : Span) (e : Entry) (va : ℕ) → Holds p va → IsTrue (is_of_address scheme va e) → IsTrue (overlaps p e.page)
overlaps_from_address scheme p e va h on =
    (overlaps-Overlap p e.page).1 (va, h, (holds-Holds e.page va).0 (and_parts (is_canonical scheme va) (holds e.page va) on).1)

pub is_served-Goes : (scheme : Scheme) (what : What) (e : Entry) → IsRequest scheme what → IsTrue (is_dropped what e) ↔ Goes scheme what e
is_served-Goes scheme (PageOf page None) e asked = (
  (λ on. of_some_address scheme page e asked on),
  (λ g. overlaps_from_address scheme page e g.0 g.1 g.2),
)
is_served-Goes scheme (PageOf page (Some asid)) e asked = (
  (λ on.
      let parts = and_parts (overlaps page e.page) (is_of_space asid e) on in
      let at = of_some_address scheme page e asked parts.0 in
      (at.0, at.1, and_from _ _ at.2 parts.1)),
  (λ g.
      let parts = and_parts (is_of_address scheme g.0 e) (is_of_space asid e) g.2 in
      and_from _ _ (overlaps_from_address scheme page e g.0 g.1 parts.0) parts.1),
)
is_served-Goes scheme (SpaceOf asid) e asked = ((λ on. on), (λ on. on))
is_served-Goes scheme All e asked = ((λ on. on), (λ on. on))

-- an entry stays exactly if it does not go
stays : (scheme : Scheme) (what : What) (e : Entry) → (¬ Goes scheme what e) → Stays scheme what e
stays scheme (PageOf page asid) e none = λ va h. not_from_false _ (false_from_ne_true _ (λ on. none (va, h, on)))
stays scheme (SpaceOf asid) e none = not_from_false _ (false_from_ne_true _ none)
stays scheme All e none = absurd (none refl)

goes_not : (scheme : Scheme) (what : What) (e : Entry) → Stays scheme what e → ¬ Goes scheme what e
goes_not scheme (PageOf page asid) e on = λ g. true≢false (sym g.2 ∙ not-true _ (on g.0 g.1))
goes_not scheme (SpaceOf asid) e on = λ g. true≢false (sym g ∙ not-true _ on)
goes_not scheme All e on = λ g. true≢false (sym on)

pub not_is_served-Stays : (scheme : Scheme) (what : What) (e : Entry) → IsRequest scheme what → IsTrue (not (is_dropped what e)) ↔ Stays scheme what e
not_is_served-Stays scheme what e asked = (
  (λ on. stays scheme what e (λ g. true≢false (sym ((is_served-Goes scheme what e asked).1 g) ∙ not-true _ on))),
  (λ on. not_from_false _ (false_from_ne_true _ (λ t. goes_not scheme what e on ((is_served-Goes scheme what e asked).0 t)))),
)

pub served_is_meant : (scheme : Scheme) (old new : List Entry) (what : What) → IsRequest scheme what → new ≡ after_service old what → Served scheme old what new
served_is_meant scheme old new what asked e = record { stays = λ e. not (is_dropped what e); each = λ e. not_is_served-Stays scheme what e asked; left = e }

-- what is served is determined
pub Served-unique : (scheme : Scheme) (old : List Entry) (what : What) (a b : List Entry) → Served scheme old what a → Served scheme old what b → a ≡ b
Served-unique scheme old what a b p q =
    let same : (e : Entry) → p.stays e ≡ q.stays e =
    λ e. same_bool (p.stays e) (q.stays e) ((λ on. (q.each e).1 ((p.each e).0 on)), (λ on. (p.each e).1 ((q.each e).0 on))) in
    p.left ∙ filter_agree p.stays q.stays same old ∙ sym q.left

pub served-Served : (scheme : Scheme) (entries : List Entry) (what : What) → IsRequest scheme what → Served scheme entries what (after_service entries what)
served-Served scheme entries what asked = served_is_meant scheme entries (after_service entries what) what asked refl
