-- What a look-up of banks finds is the first match of the entries by age.
use Rattle.std.proofs.Common.{◌≡◌, sym, ◌∙◌, ap, refl, subst, ℕ, ◌<◌, ◌≤◌, true, false, Some, None, arith}
use Rattle.std.specs.Prelude.{◌==◌, ◌||◌, slice_get, slice_index}
use Rattle.std.proofs.lemmas.Bool.{and_parts, false_from_ne_true}
use Rattle.tlb.specs.declared.store.Entry.{Entry}
use Rattle.tlb.specs.declared.banks.Banks.{Banks}
use Rattle.tlb.specs.Banks.{HasAll, InUse, IsBanks, entries_of}
use Rattle.tlb.specs.Entries.{first_match, holds, is_match}
use Rattle.tlb.specs.Slots.{IsIn, slot_of}
use Rattle.tlb.proofs.ByAge.{least_found, none_found}
use Rattle.tlb.proofs.Ranking.{age_at}

module _ (b : Banks) (is : IsBanks b) (asid va : ℕ) where
  module _ (least : ℕ) (small : least ≤ b.count) (before : (k : ℕ) (e : Entry) → slice_get b.held k ≡ Some e → slice_index b.ages k < least → ¬ (is_match asid va e ≡ true)) where
    younger_fails : (age : ℕ) (e : Entry) → 0 ≤ age → age < least → slice_get b.held (slot_of b.ages age) ≡ Some e → is_match asid va e ≡ false
    younger_fails age e from below at =
        let there : age < 16 = omega (arith, is.count) in
        false_from_ne_true _ (λ on. before (slot_of b.ages age) e at (omega (arith, age_at b.ages age is.ages there)) on)

    pub oldest_is : (slot : ℕ) (e : Entry) → slot < 16 → slice_index b.ages slot ≡ least → least < b.count → slice_get b.held slot ≡ Some e → is_match asid va e ≡ true → first_match (entries_of b) asid va ≡ Some e
    oldest_is slot e within age used at on =
        let here : slot_of b.ages least ≡ slot = ap (slot_of b.ages) (sym age) ∙ is.ages.once slot within in
        least_found (λ n. slice_get b.held (slot_of b.ages n)) (is_match asid va) b.count 0 least e (omega arith) (omega arith) (ap (slice_get b.held) here ∙ at) on younger_fails

    pub none_is : least ≡ b.count → first_match (entries_of b) asid va ≡ None
    none_is all = none_found (λ n. slice_get b.held (slot_of b.ages n)) (is_match asid va) b.count 0 (λ age e from below at. younger_fails age e from (omega arith) at)

  -- a slot whose entry matches is among those whose page has the address
  pub match_near : (near : ℕ) → HasAll b (λ e. holds e.page va) near → (k : ℕ) (e : Entry) → slice_get b.held k ≡ Some e → InUse b k → is_match asid va e ≡ true → IsIn near k
  match_near near all k e at used on = all k e at used (and_parts (holds e.page va) (e.global || (e.asid == asid)) on).0

  -- where one slot alone can match
  module _ (slot : ℕ) (there : slot < 16) (alone : (k : ℕ) (e : Entry) → slice_get b.held k ≡ Some e → InUse b k → is_match asid va e ≡ true → k ≡ slot) where
    pub alone_is : (e : Entry) → InUse b slot → slice_get b.held slot ≡ Some e → is_match asid va e ≡ true → first_match (entries_of b) asid va ≡ Some e
    alone_is e used at on =
        oldest_is (slice_index b.ages slot) (omega (arith, used))
        (λ k x here less match. let age : slice_index b.ages k ≡ slice_index b.ages slot = ap (slice_index b.ages) (alone k x here (omega (arith, less, used)) match) in omega (arith, less, age))
        slot e there refl used at on

    pub alone_fails : ((e : Entry) → InUse b slot → slice_get b.held slot ≡ Some e → ¬ (is_match asid va e ≡ true)) → first_match (entries_of b) asid va ≡ None
    alone_fails fails =
        none_is b.count (omega arith)
        (λ k x here less match.
        let same = alone k x here less match in
        fails x (subst (InUse b) same less) (ap (slice_get b.held) (sym same) ∙ here) match)
        refl
