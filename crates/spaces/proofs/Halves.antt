-- Pages of 4 KiB by their numbers: the parts of a page, those of the user's half and of the window,
-- and pages that overlap.
use Rattle.std.proofs.Common.{◌≡◌, ℕ, ◌+◌, ◌-◌, ◌*◌, ◌%◌, ◌^◌, ◌≤◌, ◌<◌, false, inl, inr, arith}
use Rattle.pte.specs.declared.address.PageSize.{PageSize}
use Rattle.pte.specs.declared.address.PageSize.TheVariants.{Kib4, Mib2, Gib1, Gib512}
use Rattle.pte.specs.declared.scheme.Scheme.{Scheme}
use Rattle.pte.specs.declared.scheme.Scheme.TheVariants.{Sv39, Sv48}
use Rattle.pte.specs.Address.{Span, Holds, Overlap, IsPage, IsPageOf, IsCanonical, address_bits, level_of, top_level, bytes_of, vpn_of}
use Rattle.walk.specs.Maps.{page_number, LiesIn}
use Rattle.spaces.specs.declared.places.Place.TheVariants.{Space, Kernel}
use Rattle.spaces.specs.Layout.{Layout, user_slots}
use Rattle.spaces.specs.Held.{IsLayout}
use Rattle.spaces.specs.Edits.{is_wrong_half}
use Rattle.spaces.proofs.Accepting.{fit-page, within}

-- the page holds the first address of each part
pub holds_part : (page : Span) (n : ℕ) → LiesIn page n → Holds page (n * bytes_of Kib4)
holds_part page n at = let from = at.from in let to = at.to in record { from = from; below = omega (arith, to) }

-- two pages with a part in common overlap
pub common_part : (p q : Span) (n : ℕ) → LiesIn p n → LiesIn q n → Overlap p q
common_part p q n at_p at_q = (n * bytes_of Kib4, holds_part p n at_p, holds_part q n at_q)

-- each part is in the page's slot of the root
slot_by : (scheme : Scheme) (base : ℕ) (size : PageSize) (n : ℕ) → level_of size ≤ top_level scheme → base % bytes_of size ≡ 0
    → base ≤ n * bytes_of Kib4 → (n + 1) * bytes_of Kib4 ≤ base + bytes_of size → vpn_of (n * bytes_of Kib4) (top_level scheme) ≡ vpn_of base (top_level scheme)
slot_by Sv39 base Kib4 n level aligned from below = omega arith
slot_by Sv39 base Mib2 n level aligned from below = omega arith
slot_by Sv39 base Gib1 n level aligned from below = omega arith
slot_by Sv39 base Gib512 n level aligned from below = absurd (omega arith)
slot_by Sv48 base Kib4 n level aligned from below = omega arith
slot_by Sv48 base Mib2 n level aligned from below = omega arith
slot_by Sv48 base Gib1 n level aligned from below = omega arith
slot_by Sv48 base Gib512 n level aligned from below = omega arith

part_slot : (scheme : Scheme) (page : Span) (n : ℕ) → IsPageOf scheme page → LiesIn page n → vpn_of (n * bytes_of Kib4) (top_level scheme) ≡ vpn_of page.base (top_level scheme)
part_slot scheme page n is at = slot_by scheme page.base page.size n is.level is.aligned at.from at.to

-- the pages of the user's half have lower numbers than those of the window
abbrev pub half_end : Scheme → ℕ
half_end scheme = page_number (2 ^ (address_bits scheme - 1))

low_part : (scheme : Scheme) (base : ℕ) (size : PageSize) (n : ℕ) → level_of size ≤ top_level scheme → IsCanonical scheme base → base % bytes_of size ≡ 0
    → vpn_of base (top_level scheme) < user_slots → (n + 1) * bytes_of Kib4 ≤ base + bytes_of size → n < half_end scheme
low_part Sv39 base Kib4 n level (inl low) aligned slot below = omega arith
low_part Sv39 base Mib2 n level (inl low) aligned slot below = omega arith
low_part Sv39 base Gib1 n level (inl low) aligned slot below = omega arith
low_part Sv39 base Gib512 n level (inl low) aligned slot below = absurd (omega arith)
low_part Sv39 base size n level (inr high) aligned slot below = absurd (omega (arith, high.0, high.1))
low_part Sv48 base Kib4 n level (inl low) aligned slot below = omega arith
low_part Sv48 base Mib2 n level (inl low) aligned slot below = omega arith
low_part Sv48 base Gib1 n level (inl low) aligned slot below = omega arith
low_part Sv48 base Gib512 n level (inl low) aligned slot below = omega arith
low_part Sv48 base size n level (inr high) aligned slot below = absurd (omega (arith, high.0, high.1))

high_part : (scheme : Scheme) (base n : ℕ) → IsCanonical scheme base → user_slots ≤ vpn_of base (top_level scheme) → base ≤ n * bytes_of Kib4 → half_end scheme ≤ n
high_part Sv39 base n (inl low) slot from = absurd (omega arith)
high_part Sv39 base n (inr high) slot from = omega (arith, high.0, high.1)
high_part Sv48 base n (inl low) slot from = absurd (omega arith)
high_part Sv48 base n (inr high) slot from = omega (arith, high.0, high.1)

-- the half of an address, by the number of its page
pub low_address : (scheme : Scheme) (va n : ℕ) → IsCanonical scheme va → page_number va ≡ n → vpn_of va (top_level scheme) < user_slots → n < half_end scheme
low_address Sv39 va n (inl low) e slot = omega (arith, low, e, slot)
low_address Sv39 va n (inr high) e slot = absurd (omega (arith, high.0, high.1, e, slot))
low_address Sv48 va n (inl low) e slot = omega (arith, low, e, slot)
low_address Sv48 va n (inr high) e slot = absurd (omega (arith, high.0, high.1, e, slot))

pub high_address : (scheme : Scheme) (va n : ℕ) → IsCanonical scheme va → page_number va ≡ n → user_slots ≤ vpn_of va (top_level scheme) → half_end scheme ≤ n
high_address Sv39 va n (inl low) e slot = absurd (omega (arith, low, e, slot))
high_address Sv39 va n (inr high) e slot = omega (arith, high.0, high.1, e, slot)
high_address Sv48 va n (inl low) e slot = absurd (omega (arith, low, e, slot))
high_address Sv48 va n (inr high) e slot = omega (arith, high.0, high.1, e, slot)

-- the parts of a page of the user's half
low_page : (scheme : Scheme) (page : Span) (n : ℕ) → IsPageOf scheme page → vpn_of page.base (top_level scheme) < user_slots → LiesIn page n → n < half_end scheme
low_page scheme page n of low at = low_part scheme page.base page.size n of.level of.canonical of.aligned low at.to

pub low_part_slot : (scheme : Scheme) (page : Span) (n : ℕ) → IsPageOf scheme page → vpn_of page.base (top_level scheme) < user_slots → LiesIn page n
    → vpn_of (n * bytes_of Kib4) (top_level scheme) < user_slots
low_part_slot scheme page n of low at = let slot = part_slot scheme page n of at in omega (arith, slot, low)

module _ (l : Layout) (layout : IsLayout l) where
  pub in_user : (s : ℕ) (page : Span) (n : ℕ) → IsPage page → is_wrong_half l (Space s) page ≡ false → LiesIn page n → n < half_end l.scheme
  in_user s page n is half at = low_page l.scheme page n (fit-page l (Space s) page half is) (within l (Space s) page half) at

  pub in_window : (page : Span) (n : ℕ) → IsPage page → is_wrong_half l Kernel page ≡ false → LiesIn page n → half_end l.scheme ≤ n
  in_window page n is half at =
      let of = fit-page l Kernel page half is in
      let slot = within l Kernel page half in
      high_part l.scheme page.base n of.canonical (omega (arith, layout.window, slot)) at.from

  -- no page is in both
  pub apart : (s : ℕ) (page window : Span) (n : ℕ) → IsPage page → IsPage window → is_wrong_half l (Space s) page ≡ false → is_wrong_half l Kernel window ≡ false
      → LiesIn page n → LiesIn window n → ⊥
  apart s page window n is is' half half' at at' =
      let low = in_user s page n is half at in let high = in_window window n is' half' at' in omega arith

  pub low_slot : (s : ℕ) (page : Span) (n : ℕ) → IsPage page → is_wrong_half l (Space s) page ≡ false → LiesIn page n → vpn_of (n * bytes_of Kib4) (top_level l.scheme) < user_slots
  low_slot s page n is half at = low_part_slot l.scheme page n (fit-page l (Space s) page half is) (within l (Space s) page half) at

  pub high_slot : (page : Span) (n : ℕ) → IsPage page → is_wrong_half l Kernel page ≡ false → LiesIn page n → user_slots ≤ vpn_of (n * bytes_of Kib4) (top_level l.scheme)
  high_slot page n is half at =
      let slot = part_slot l.scheme page n (fit-page l Kernel page half is) at in
      let from = within l Kernel page half in
      omega (arith, slot, from, layout.window)
