-- A drop of one slot and a fill of one keep what banks keep.
use Rattle.std.proofs.Common.{◌≡◌, ◌≢◌, sym, ◌∙◌, ap, subst, refl, ℕ, ◌+◌, ◌-◌, ◌<◌, ◌≤◌, Some, map, length, inl, inr, arith, set, get_or-set_same, get_or-set_other, length-set}
use Rattle.std.specs.Prelude.{slice_get, slice_index}
use Rattle.std.proofs.lemmas.Bool.{cases_eq}
use Rattle.std.proofs.lemmas.Option.{slice_get_within}
use Rattle.pte.specs.declared.address.PageSize.TheVariants.{Kib4}
use Rattle.pte.specs.Address.{IsPage}
use Rattle.tlb.specs.declared.store.Entry.{Entry}
use Rattle.tlb.specs.declared.banks.Banks.{Banks}
use Rattle.tlb.specs.Banks.{InUse, IsBanks, IsSlot, mask_of, tag_of}
use Rattle.tlb.specs.Slots.{closed_up, slot_of}
use Rattle.tlb.proofs.Dropping.{slice_get-set_other, slice_get-set_same}
use Rattle.tlb.proofs.Ranking.{closed_ranking, now_at}

-- an age that is in use after a drop was so before, and is not the one that was dropped
still_below : (dropped age count : ℕ) → dropped < count → count ≤ 16 → closed_up dropped age < count - 1 → (age < count) × (age ≢ dropped)
still_below dropped age count in_use small now = (grind arith, λ same. grind arith)

-- a slot in use after a drop was so before, and is not the one that was dropped
pub used_before_drop : (b now : Banks) (slot k : ℕ) → IsBanks b → slot < 16 → InUse b slot → now.ages ≡ map (closed_up (slice_index b.ages slot)) b.ages → now.count + 1 ≡ b.count → k < 16 → InUse now k → InUse b k × (k ≢ slot)
used_before_drop b now slot k is there in_use ages count within on =
    let dropped : ℕ = slice_index b.ages slot in
    let age : slice_index now.ages k ≡ closed_up dropped (slice_index b.ages k) = ap (λ xs. slice_index xs k) ages ∙ now_at b.ages dropped is.ages (is.ages.below slot there) k within in
    let parts = still_below dropped (slice_index b.ages k) b.count in_use is.count (omega (arith, age, on, count)) in
    (parts.0, λ one. parts.1 (ap (slice_index b.ages) one))

module _ (b : Banks) (is : IsBanks b) where
  in_range : (k : ℕ) (x : Entry) → slice_get b.held k ≡ Some x → k < 16
  in_range k x at = omega (arith, slice_get_within b.held k x at, is.held)

  module _ (slot : ℕ) (there : slot < 16) (in_use : InUse b slot) where
    abbrev dropped : Banks
    dropped = record { tags = b.tags; masks = b.masks; ages = map (closed_up (slice_index b.ages slot)) b.ages; held = b.held; count = b.count - 1 }

    pub kept_by_drop : IsBanks dropped
    kept_by_drop = record {
      ages = closed_ranking b.ages (slice_index b.ages slot) is.ages (is.ages.below slot there);
      count = omega (arith, is.count);
      held = is.held;
      slots = λ k x here.
          let old = is.slots k x here in
          let was : InUse dropped k → InUse b k = λ on. (used_before_drop b dropped slot k is there in_use refl (omega arith) (in_range k x here) on).0 in
          record { tag = λ on. old.tag (was on); mask = λ on. old.mask (was on); page = λ on. old.page (was on) };
    }

  module _ (e : Entry) (room : b.count < 16) (page : IsPage e.page) (sixteen : length b.tags ≡ 16) (masks : length b.masks ≡ 16) where
    abbrev slot : ℕ
    slot = slot_of b.ages b.count

    abbrev added : Banks
    added = record { tags = set b.tags slot (tag_of e.page.base Kib4); masks = set b.masks slot (mask_of e.page.size); ages = b.ages; held = set b.held slot e; count = b.count + 1 }

    slot_there : slot < 16
    slot_there = is.ages.each b.count room

    new_slot : IsSlot added slot e
    new_slot = record {
      tag = λ on. get_or-set_same b.tags slot (tag_of e.page.base Kib4) 0 (omega (arith, slot_there, sixteen));
      mask = λ on. get_or-set_same b.masks slot (mask_of e.page.size) 0 (omega (arith, slot_there, masks));
      page = λ on. page;
    }

    old_slot : (k : ℕ) (x : Entry) → k ≢ slot → slice_get b.held k ≡ Some x → IsSlot added k x
    old_slot k x apart here =
        let old = is.slots k x here in
        let was : InUse added k → InUse b k =
        λ on.
        let other : slice_index b.ages k ≢ b.count = λ one. apart (sym (is.ages.once k (in_range k x here)) ∙ ap (slot_of b.ages) one) in
        omega (arith, on) in
        record {
          tag = λ on. get_or-set_other b.tags slot k (tag_of e.page.base Kib4) 0 apart ∙ old.tag (was on);
          mask = λ on. get_or-set_other b.masks slot k (mask_of e.page.size) 0 apart ∙ old.mask (was on);
          page = λ on. old.page (was on);
        }

    one_slot : (k : ℕ) (x : Entry) → slice_get (set b.held slot e) k ≡ Some x → IsSlot added k x
    one_slot k x here = elim (cases_eq k slot) [
      | inl same ↦
          let at : slice_get (set b.held slot e) slot ≡ Some x = ap (slice_get (set b.held slot e)) (sym same) ∙ here in
          let both : Some e ≡ Some x = sym (slice_get-set_same b.held slot e (omega (arith, slot_there, is.held))) ∙ at in
          let one : e ≡ x = cc in
          subst (λ n. IsSlot added n x) (sym same) (subst (λ (y : Entry). IsSlot added slot y) one new_slot)
      | inr apart ↦ old_slot k x apart (sym (slice_get-set_other b.held slot k e (λ one. apart (sym one))) ∙ here)
    ]

    pub kept_by_fill : IsBanks added
    kept_by_fill = record { ages = is.ages; count = omega (arith, room); held = length-set b.held slot e ∙ is.held; slots = one_slot }
