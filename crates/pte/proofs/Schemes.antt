-- What the schemes have in common.
use Rattle.std.proofs.Common.{◌≡◌, ℕ, ◌+◌, ◌*◌, ◌≤◌, refl, inl, inr, arith}
use Rattle.pte.specs.declared.scheme.Scheme.{Scheme}
use Rattle.pte.specs.declared.scheme.Scheme.TheVariants.{Sv39, Sv48}
use Rattle.pte.specs.Address.{IsCanonical, IsPage, IsPageOf, Span, address_bits, level_count}
use Rattle.pte.specs.Address.{top_level, widest}
pub use Rattle.pte.proofs.Tests.{is_canonical-IsCanonical, fits-IsPageOf}

-- the bits of an address are those of its place in a page of 4 KiB, and 9 for each level
pub bits_levels : (scheme : Scheme) → address_bits scheme ≡ 12 + 9 * level_count scheme
bits_levels Sv39 = refl
bits_levels Sv48 = refl

-- every level of a scheme is one of the widest
pub levels_widest : (scheme : Scheme) → top_level scheme ≤ top_level widest
levels_widest Sv39 = omega arith
levels_widest Sv48 = omega arith

-- there are two levels below the root
pub levels_two : (scheme : Scheme) → 2 ≤ top_level scheme
levels_two Sv39 = omega arith
levels_two Sv48 = omega arith

-- every address of a scheme is one of the widest
pub canonical_widest : (scheme : Scheme) (va : ℕ) → IsCanonical scheme va → IsCanonical widest va
canonical_widest Sv39 va (inl low) = inl (omega arith)
canonical_widest Sv39 va (inr high) =
    let from = high.0 in let below = high.1 in inr (omega arith, omega arith)
canonical_widest Sv48 va h = h

pub level_in_widest : (scheme : Scheme) (i : ℕ) → i ≤ top_level scheme → i ≤ top_level widest
level_in_widest scheme i le = let widest_has = levels_widest scheme in omega arith

-- a page of a scheme is one of some scheme
pub page_in_widest : (scheme : Scheme) (page : Span) → IsPageOf scheme page → IsPage page
page_in_widest scheme page of =
    record { canonical = canonical_widest scheme page.base of.canonical; aligned = of.aligned }

pub ruleset in_widest = (bits_levels, levels_widest, canonical_widest, page_in_widest)
