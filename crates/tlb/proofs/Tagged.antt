-- Which slots can have a page that overlaps another, or that has an address: what their tags say.
use Rattle.std.proofs.Common.{◌≡◌, sym, ◌∙◌, ap, ℕ, ◌+◌, ◌*◌, ◌/◌, ◌%◌, ◌^◌, ◌<◌, true, Some, arith}
use Rattle.std.specs.Prelude.{bit_and, slice_get, slice_index}
use Rattle.std.proofs.lemmas.Nat.{and_assoc, and_comm}
use Rattle.std.proofs.lemmas.Nat.Bits.{and_high_mask}
use Rattle.pte.specs.declared.address.PageSize.{PageSize}
use Rattle.pte.specs.declared.address.PageSize.TheVariants.{Kib4, Mib2, Gib1, Gib512}
use Rattle.pte.specs.Address.{Holds, IsPage, Span, bytes_of, level_of, pages_of}
use Rattle.tlb.specs.declared.store.Entry.{Entry}
use Rattle.tlb.specs.declared.banks.Banks.{Banks}
use Rattle.tlb.specs.Banks.{InUse, IsBanks, mask_of, tag_of}
use Rattle.tlb.specs.Entries.{holds}
use Rattle.tlb.specs.Service.{overlaps}
use Rattle.tlb.proofs.Overlapping.{holds-Holds, overlaps-Overlap, same_row}

tag_fits : (va : ℕ) → tag_of va Kib4 < 2 ^ 32
tag_fits va = omega arith

-- what a mask leaves of a tag
masked : (n : ℕ) (size : PageSize) → n < 2 ^ 32 → bit_and n (mask_of size) ≡ n / pages_of size * pages_of size
masked n Kib4 fits = and_high_mask 32 0 (omega arith) n fits
masked n Mib2 fits = and_high_mask 32 9 (omega arith) n fits
masked n Gib1 fits = and_high_mask 32 18 (omega arith) n fits
masked n Gib512 fits = and_high_mask 32 27 (omega arith) n fits

-- the tag of a base is that of each address of the page, in the bits that count
base_tag : (base va : ℕ) (size : PageSize) → base % bytes_of size ≡ 0 → base / bytes_of size ≡ va / bytes_of size → tag_of base Kib4 ≡ tag_of va Kib4 / pages_of size * pages_of size
base_tag base va Kib4 aligned row = omega arith
base_tag base va Mib2 aligned row = omega arith
base_tag base va Gib1 aligned row = omega arith
base_tag base va Gib512 aligned row = omega arith

-- so the tag of a page is that of each of its addresses under its mask
page_tag : (page : Span) (va : ℕ) → page.base % bytes_of page.size ≡ 0 → Holds page va → tag_of page.base Kib4 ≡ bit_and (tag_of va Kib4) (mask_of page.size)
page_tag page va aligned on =
    base_tag page.base va page.size aligned (same_row page.base va (12 + 9 * level_of page.size) aligned on.from on.below)
    ∙ sym (masked (tag_of va Kib4) page.size (tag_fits va))

-- two masks leave the same of one tag, one after the other
crossed : (n a b : ℕ) → bit_and (bit_and n a) b ≡ bit_and a (bit_and n b)
crossed n a b = ap (λ m. bit_and m b) (and_comm n a) ∙ and_assoc b a n

module _ (b : Banks) (is : IsBanks b) (slot : ℕ) (e : Entry) (at : slice_get b.held slot ≡ Some e) (used : InUse b slot) where
  -- a slot whose page shares an address with another page agrees with its tag
  agrees : (va mask tag : ℕ) → Holds e.page va → tag ≡ bit_and (tag_of va Kib4) mask → bit_and (slice_index b.tags slot) mask ≡ bit_and (slice_index b.masks slot) tag
  agrees va mask tag on same =
      let here = is.slots slot e at in
      ap (λ n. bit_and n mask) (here.tag used ∙ page_tag e.page va (here.page used).aligned on)
      ∙ crossed (tag_of va Kib4) (mask_of e.page.size) mask
      ∙ (λ i. bit_and (sym (here.mask used) i) (sym same i))

  pub has_tag : (va : ℕ) → holds e.page va ≡ true → bit_and (slice_index b.tags slot) (mask_of Kib4) ≡ bit_and (slice_index b.masks slot) (tag_of va Kib4)
  has_tag va on =
      let whole : bit_and (tag_of va Kib4) (mask_of Kib4) ≡ tag_of va Kib4 = masked (tag_of va Kib4) Kib4 (tag_fits va) ∙ omega arith in
      agrees va (mask_of Kib4) (tag_of va Kib4) ((holds-Holds e.page va).0 on) (sym whole)

  pub overlap_has_tag : (page : Span) → IsPage page → overlaps page e.page ≡ true → bit_and (slice_index b.tags slot) (mask_of page.size) ≡ bit_and (slice_index b.masks slot) (tag_of page.base Kib4)
  overlap_has_tag page good on =
      let shared = (overlaps-Overlap page e.page).0 on in
      agrees shared.0 (mask_of page.size) (tag_of page.base Kib4) shared.2 (page_tag page shared.0 good.aligned shared.1)
