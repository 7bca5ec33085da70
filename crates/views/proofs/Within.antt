-- What keeps a TLB within the entries of a view.
use Rattle.std.proofs.Common.{◌≡◌, ◌∙◌, ap, refl, ℕ, zero, suc, ◌<◌, ◌++◌, Bool, true, false, not, List, [], ◌∷◌, length, filter, Option, arith}
use Rattle.std.specs.Prelude.{Contains, slice_index_or}
use Rattle.std.specs.List.{AllPass}
use Rattle.std.proofs.lemmas.List.Elements.{All-contains, Contains-append_left}
use Rattle.pte.specs.declared.address.What.{What}
use Rattle.pte.specs.declared.scheme.Scheme.{Scheme}
use Rattle.walk.specs.declared.walking.Progress.{Progress}
use Rattle.walk.specs.declared.walking.Progress.TheVariants as progress
use Rattle.tlb.specs.declared.store.Entry.{Entry}
use Rattle.tlb.specs.Answer.{entry_of}
use Rattle.tlb.specs.Fence.{fenced, is_fenced}
use Rattle.tlb.specs.Service.{is_dropped, after_service}
use Rattle.tlb.proofs.Keeping.{Contains-filter}
use Rattle.views.specs.OnBoard.{IsWithin}
use Rattle.views.specs.Turns.{with_fill}

-- an element that passes a test is left by its filter
left-by : (p : Entry → Bool) (xs : List Entry) (x : Entry) (k : ℕ) → k < length xs → slice_index_or xs k x ≡ x → p x ≡ true → Contains (filter p xs) x
left-by p [] x k less is passes = absurd (omega (arith, less))
left-by p (y ∷ ys) x zero less is passes = rw (ap p is ∙ passes) (zero, omega arith, is)
left-by p (y ∷ ys) x (suc k) less is passes = by (p y) refl (left-by p ys x k (omega (arith, less)) is passes)
  where
    by : (b : Bool) → p y ≡ b → Contains (filter p ys) x → Contains (filter p (y ∷ ys)) x
    by true e rest = let below = rest.1 in rw e (suc rest.0, omega (arith, below), rest.2)
    by false e rest = rw e rest

-- where the TLB holds nothing of what a request names, the view may drop that
pub within_dropped : (tlb held : List Entry) (what : What) → AllPass (λ e. not (is_dropped what e)) tlb → IsWithin tlb held → IsWithin tlb (after_service held what)
within_dropped tlb held what none was = record {
  each = λ e at.
      let there = was.each e at in
      left-by (λ x. not (is_dropped what x)) held e there.0 there.1 there.2 (All-contains (λ x. not (is_dropped what x) ≡ true) tlb e none at);
}

-- a load of a walk adds to what the view holds
pub within_loaded : (tlb held : List Entry) (asid : ℕ) (made : Progress) → IsWithin tlb held → IsWithin tlb (with_fill asid held made)
within_loaded tlb held asid (progress.More next) was = was
within_loaded tlb held asid (progress.Trap trap) was = was
within_loaded tlb held asid (progress.Found found) was = record { each = λ e at. Contains-append_left held (entry_of asid found ∷ []) e (was.each e at) }

-- a TLB from which entries go stays within what the view holds
within_fewer : (p : Entry → Bool) (tlb held : List Entry) → IsWithin tlb held → IsWithin (filter p tlb) held
within_fewer p tlb held was = record { each = λ e at. was.each e (Contains-filter p tlb e at) }

pub within_fenced : (scheme : Scheme) (tlb held : List Entry) (rs1 rs2 : Option ℕ) → IsWithin tlb held → IsWithin (fenced scheme tlb rs1 rs2) held
within_fenced scheme tlb held rs1 rs2 was = within_fewer (λ x. not (is_fenced scheme rs1 rs2 x)) tlb held was

pub within_served : (tlb held : List Entry) (what : What) → IsWithin tlb held → IsWithin (after_service tlb what) held
within_served tlb held what was = within_fewer (λ x. not (is_dropped what x)) tlb held was
