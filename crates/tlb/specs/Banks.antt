-- The entries of a TLB in 16 slots, which the banks share: there is one bank for each size of page,
-- and the mask of a slot says in which it is.
use Rattle.std.specs.Prelude.{ℕ, Bool, true, ◌≡◌, ◌-◌, ◌/◌, ◌%◌, ◌^◌, ◌<◌, ◌≤◌, Some, List, length}
use Rattle.std.specs.Prelude.{slice_get, slice_index}
use Rattle.std.specs.List.{filter_map, range_with_len}
use Rattle.pte.specs.declared.address.PageSize.{PageSize}
use Rattle.pte.specs.declared.address.PageSize.TheVariants.{Kib4}
use Rattle.pte.specs.Address.{IsPage, bytes_of, pages_of}
use Rattle.tlb.specs.declared.store.Entry.{Entry}
use Rattle.tlb.specs.declared.store.TheConstants.{TLB_SIZE}
use Rattle.tlb.specs.declared.banks.Banks.{Banks}
use Rattle.tlb.specs.Slots.{IsIn, IsRanking, slot_of}

-- the entries by age, the oldest first: the ages are the numbers below the count
abbrev pub by_age : List Entry → List ℕ → ℕ → List Entry
by_age held ages count =
    filter_map (λ age. slice_get held (slot_of ages age)) (range_with_len 0 count)

abbrev pub entries_of : Banks → List Entry
entries_of b = by_age b.held b.ages b.count

-- a slot is in use while its age is below the count
abbrev pub InUse : Banks → ℕ → Type 0
InUse b slot = slice_index b.ages slot < b.count

-- each slot in use whose entry passes a test is in the set
abbrev pub HasAll : Banks → (Entry → Bool) → ℕ → Type 0
HasAll b test set =
    (slot : ℕ) (e : Entry) → slice_get b.held slot ≡ Some e → InUse b slot → test e ≡ true
    → IsIn set slot

-- the low bits of the number of the page of a size that has the address
abbrev pub tag_of : ℕ → PageSize → ℕ
tag_of va size = va / bytes_of size % 2 ^ 32

-- the bits of the number of a page of 4 KiB that all addresses in a page of a size share
abbrev pub mask_of : PageSize → ℕ
mask_of size = 2 ^ 32 - pages_of size

-- the slot holds the entry: while in use it has the tag of the entry's base and the mask of its size
pub record IsSlot (b : Banks) (slot : ℕ) (e : Entry) : Type 0 where
  pub tag : InUse b slot → slice_index b.tags slot ≡ tag_of e.page.base Kib4
  pub mask : InUse b slot → slice_index b.masks slot ≡ mask_of e.page.size
  pub page : InUse b slot → IsPage e.page

-- what the slots of every TLB keep
pub record IsBanks (b : Banks) : Type 0 where
  pub ages : IsRanking b.ages
  pub count : b.count ≤ TLB_SIZE
  pub held : length b.held ≡ TLB_SIZE
  pub slots : (slot : ℕ) (e : Entry) → slice_get b.held slot ≡ Some e → IsSlot b slot e
