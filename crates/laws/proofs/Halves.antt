-- Pages of 4 KiB that edits and orders are about.
use Rattle.std.proofs.Common.{◌≡◌, ℕ, true, Option, Some, None, ap, subst, ◌&&◌, eqb, sym, ◌∙◌}
use Rattle.std.proofs.lemmas.Bool.{eq-eqb, and_from}
use Rattle.pte.specs.Address.{Span}
use Rattle.spaces.specs.declared.places.Place.{Place}
use Rattle.spaces.specs.declared.places.Place.TheVariants.{Space, Kernel}
use Rattle.spaces.specs.Held.{IsLayout}
use Rattle.spaces.specs.Effects.{IsAbout}
use Rattle.spaces.proofs.Halves.{apart, common_part}
use Rattle.walk.specs.Maps.{LiesIn}
use Rattle.tlb.specs.Service.{overlaps}
use Rattle.tlb.proofs.Overlapping.{overlaps-Overlap}
use Rattle.history.specs.Setup.{Setup}
use Rattle.history.specs.Turns.{History}
use Rattle.history.specs.Spaces.{asid_of, asid_in}
use Rattle.history.specs.Staleness.{is_same_asid, HasAsid, Reaches}
use Rattle.laws.proofs.Causes.{IsAsked, IsAt}

both_hold : (p q : Span) (n : ℕ) → LiesIn p n → LiesIn q n → overlaps p q ≡ true
both_hold p q n at_p at_q = (overlaps-Overlap p q).1 (common_part p q n at_p at_q)

module _ (C : Setup) (layout : IsLayout C.layout) where
  -- where an edit is about a part of a page in a root through which the page is reached, it is over
  -- the page
  pub about_over : (H : History) (of : Option ℕ) (place other : Place) (page span : Span) (s n : ℕ) → IsAt of place → IsAsked C place page → IsAsked C other span
      → Reaches C H of s → LiesIn page n → IsAbout other span s n → (is_same_asid of (asid_in C H other) && overlaps page span) ≡ true
  about_over H of (Space t) (Space u) page span s n of_is a b reach at about =
      let has : HasAsid C H s of_is.0 = subst (λ (o : Option ℕ). Reaches C H o s) of_is.1 reach in
      let same : of_is.0 ≡ asid_of C H u = sym has.same ∙ ap (asid_of C H) (sym about.0) in
      subst (λ (o : Option ℕ). (is_same_asid o (Some (asid_of C H u)) && overlaps page span) ≡ true) (sym of_is.1)
      (and_from (eqb of_is.0 (asid_of C H u)) (overlaps page span) (eq-eqb of_is.0 (asid_of C H u) same) (both_hold page span n at about.1))
  about_over H of (Space t) Kernel page span s n of_is a b reach at about = absurd (apart C.layout layout t page span n a.is_page b.is_page a.right_half b.right_half at about.1)
  about_over H of Kernel (Space u) page span s n of_is a b reach at about = absurd (apart C.layout layout u span page n b.is_page a.is_page b.right_half a.right_half about.1 at)
  about_over H of Kernel Kernel page span s n of_is a b reach at about =
      subst (λ (o : Option ℕ). (is_same_asid o None && overlaps page span) ≡ true) (sym of_is) (both_hold page span n at about.1)
