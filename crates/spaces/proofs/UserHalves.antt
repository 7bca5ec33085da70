-- The pages of a scheme that lie in the user's half, by their size and one test of their base.
use Rattle.std.proofs.Common.{◌≡◌, ◌-◌, ◌/◌, ◌^◌, ◌<◌, ◌||◌, not, eqb, arith}
use Rattle.std.proofs.lemmas.Bool.Decides.{nat_tests}
use Rattle.std.specs.Prelude.{nat_le, nat_lt}
use Rattle.pte.specs.declared.scheme.Scheme.{Scheme}
use Rattle.pte.specs.declared.scheme.Scheme.TheVariants.{Sv39, Sv48}
use Rattle.pte.specs.Address.{Span, address_bits, fits, level_of, top_level, vpn_of}
use Rattle.spaces.specs.Layout.{user_slots}

pub by-base : (scheme : Scheme) (page : Span) → page.base < 2 ^ 64
    → (not (fits scheme page) || nat_le user_slots (vpn_of page.base (top_level scheme)))
    ≡ (nat_lt (top_level scheme) (level_of page.size) || not (eqb (page.base / 2 ^ (address_bits scheme - 1)) 0))
by-base Sv39 page wide = grind (arith, nat_tests)
by-base Sv48 page wide = grind (arith, nat_tests)

pub ruleset user_half = (by-base)
