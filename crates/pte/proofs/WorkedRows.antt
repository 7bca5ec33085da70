-- Worked rows, computed from the definitions alone: the edges of what is canonical in each scheme,
-- indices, sizes, and the pages that fit a scheme.
use Rattle.std.proofs.Common.{◌≡◌, ℕ, true, false, refl, Ok, Err}
use Rattle.pte.specs.declared.scheme.Scheme.TheVariants.{Sv39, Sv48}
use Rattle.pte.specs.declared.address.PageSize.{PageSize}
use Rattle.pte.specs.declared.address.PageSize.TheVariants.{Kib4, Mib2, Gib1, Gib512}
use Rattle.pte.specs.declared.address.NotPage.TheVariants.{NoSuchSize, NotCanonical, Unaligned}
use Rattle.pte.specs.Address.{Span, bytes_of, fits, is_canonical, level_count, page_around, page_at, pages_of, vpn_of}

levels_39 : level_count Sv39 ≡ 3
levels_39 = refl

levels_48 : level_count Sv48 ≡ 4
levels_48 = refl

last_of_low_39 : is_canonical Sv39 0x3FFFFFFFFF ≡ true
last_of_low_39 = refl

behind_low_39 : is_canonical Sv39 0x4000000000 ≡ false
behind_low_39 = refl

before_high_39 : is_canonical Sv39 0xFFFFFFBFFFFFFFFF ≡ false
before_high_39 = refl

first_of_high_39 : is_canonical Sv39 0xFFFFFFC000000000 ≡ true
first_of_high_39 = refl

low_of_48_in_39 : is_canonical Sv39 0x7FFFFFFFFFFF ≡ false
low_of_48_in_39 = refl

high_of_48_in_39 : is_canonical Sv39 0xFFFF800000000000 ≡ false
high_of_48_in_39 = refl

behind_low_39_in_48 : is_canonical Sv48 0x4000000000 ≡ true
behind_low_39_in_48 = refl

last_of_low_48 : is_canonical Sv48 0x7FFFFFFFFFFF ≡ true
last_of_low_48 = refl

behind_low_48 : is_canonical Sv48 0x800000000000 ≡ false
behind_low_48 = refl

before_high_48 : is_canonical Sv48 0xFFFF7FFFFFFFFFFF ≡ false
before_high_48 = refl

first_of_high_48 : is_canonical Sv48 0xFFFF800000000000 ≡ true
first_of_high_48 = refl

last_48 : is_canonical Sv48 0xFFFFFFFFFFFFFFFF ≡ true
last_48 = refl

-- a number of 65 bits is no address
too_large : is_canonical Sv48 0x10000000000000000 ≡ false
too_large = refl

-- VPN[3] is bits 47 to 39
index_3 : vpn_of 0x8080403ABC 3 ≡ 1
index_3 = refl

index_2 : vpn_of 0x8080403ABC 2 ≡ 2
index_2 = refl

last_index_of_low : vpn_of 0x7FFFFFFFFFFF 3 ≡ 255
last_index_of_low = refl

first_index_of_high : vpn_of 0xFFFF800000000000 3 ≡ 256
first_index_of_high = refl

last_index : vpn_of 0xFFFFFF8000000000 3 ≡ 511
last_index = refl

bytes_of_widest : bytes_of Gib512 ≡ 0x8000000000
bytes_of_widest = refl

pages_of_widest : pages_of Gib512 ≡ 0x8000000
pages_of_widest = refl

abbrev page : PageSize → ℕ → Span
page size base = record { base = base; size = size }

widest_around : page_around 0x8080403ABC Gib512 ≡ page Gib512 0x8000000000
widest_around = refl

widest_page_in_39 : fits Sv39 (page Gib512 0) ≡ false
widest_page_in_39 = refl

widest_page_in_48 : fits Sv48 (page Gib512 0x8000000000) ≡ true
widest_page_in_48 = refl

last_large_page_in_39 : fits Sv39 (page Gib1 0x3FC0000000) ≡ true
last_large_page_in_39 = refl

small_page_behind_39 : fits Sv39 (page Kib4 0x4000000000) ≡ false
small_page_behind_39 = refl

small_page_in_48 : fits Sv48 (page Kib4 0x4000000000) ≡ true
small_page_in_48 = refl

no_page_between : fits Sv48 (page Kib4 0x800000000000) ≡ false
no_page_between = refl

-- pages at addresses, and what is refused first
largest_page_at_39 : page_at Sv39 0 Gib512 ≡ Err NoSuchSize
largest_page_at_39 = refl

largest_page_at_48 : page_at Sv48 0xFFFFFF8000000000 Gib512 ≡ Ok (page Gib512 0xFFFFFF8000000000)
largest_page_at_48 = refl

behind_39_at : page_at Sv39 0x4000000000 Gib1 ≡ Err NotCanonical
behind_39_at = refl

small_page_at : page_at Sv39 0x201000 Kib4 ≡ Ok (page Kib4 0x201000)
small_page_at = refl

odd_page_at : page_at Sv39 0x201000 Mib2 ≡ Err Unaligned
odd_page_at = refl

size_is_first : page_at Sv39 0x4000000001 Gib512 ≡ Err NoSuchSize
size_is_first = refl

canonical_is_next : page_at Sv39 0x4000000001 Gib1 ≡ Err NotCanonical
canonical_is_next = refl
