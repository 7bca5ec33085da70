-- Each test of an address or of a page is the fact.
use Rattle.std.proofs.Common.{ℕ, ◌+◌, ◌-◌, ◌*◌, ◌^◌, ◌<◌, IsTrue, inl, inr, arith}
use Rattle.std.specs.Prelude.{◌↔◌, ◌&&◌, nat_lt, nat_le}
use Rattle.std.proofs.lemmas.Bool.{and_parts, and_from, or_cases, or_left, or_right}
use Rattle.std.proofs.lemmas.Bool.{cases_lt, leb-true, ltb-true, le-leb, lt-ltb}
use Rattle.std.proofs.lemmas.Nat.{pow_pos}
use Rattle.pte.specs.declared.address.PageSize.{PageSize}
use Rattle.pte.specs.declared.scheme.Scheme.{Scheme}
use Rattle.pte.specs.Address.{IsCanonical, IsPage, IsPageOf, Holds, Overlap, Span}
use Rattle.pte.specs.Address.{address_bits, bytes_of, fits, holds, is_canonical, level_of, overlaps}
use Rattle.pte.specs.Address.{top_level}

pub is_canonical-IsCanonical : (scheme : Scheme) (va : ℕ)
    → IsTrue (is_canonical scheme va) ↔ IsCanonical scheme va
is_canonical-IsCanonical scheme va =
    let half : ℕ = 2 ^ (address_bits scheme - 1) in (
      (λ on. elim (or_cases (nat_lt va half) (nat_le (2 ^ 64 - half) va && nat_lt va (2 ^ 64)) on) [
        | inl low ↦ inl (ltb-true _ _ low)
        | inr high ↦
            let both = and_parts (nat_le (2 ^ 64 - half) va) (nat_lt va (2 ^ 64)) high in
            inr (leb-true _ _ both.0, ltb-true _ _ both.1)
      ]),
      (λ is. elim is [
        | inl low ↦ or_left _ _ (lt-ltb _ _ low)
        | inr high ↦ or_right _ _ (and_from _ _ (le-leb _ _ high.0) (lt-ltb _ _ high.1))
      ]),
    )

pub fits-IsPageOf : (scheme : Scheme) (page : Span) → IsPage page
    → IsTrue (fits scheme page) ↔ IsPageOf scheme page
fits-IsPageOf scheme page is =
    let canonical = is_canonical-IsCanonical scheme page.base in (
      (λ on.
          let level = nat_le (level_of page.size) (top_level scheme) in
          let both = and_parts level (is_canonical scheme page.base) on in
          record {
            level = leb-true _ _ both.0;
            canonical = canonical.0 both.1;
            aligned = is.aligned;
          }),
      (λ of. and_from _ _ (le-leb _ _ of.level) (canonical.1 of.canonical)),
    )

pub holds-Holds : (page : Span) (va : ℕ) → IsTrue (holds page va) ↔ Holds page va
holds-Holds page va = (
  (λ on.
      let both = and_parts (nat_le page.base va) (nat_lt va (page.base + bytes_of page.size)) on in
      record { from = leb-true _ _ both.0; below = ltb-true _ _ both.1 }),
  (λ is. and_from _ _ (le-leb _ _ is.from) (lt-ltb _ _ is.below)),
)

has_bytes : (size : PageSize) → 0 < bytes_of size
has_bytes size = pow_pos (12 + 9 * level_of size)

pub overlaps-Overlap : (a b : Span) → IsTrue (overlaps a b) ↔ Overlap a b
overlaps-Overlap a b =
    let before = nat_lt a.base (b.base + bytes_of b.size) in
    let behind = nat_lt b.base (a.base + bytes_of a.size) in (
      (λ on.
          let both = and_parts before behind on in
          let first : a.base < b.base + bytes_of b.size = ltb-true _ _ both.0 in
          let second : b.base < a.base + bytes_of a.size = ltb-true _ _ both.1 in
          elim (cases_lt a.base b.base) [
            | inl below ↦ (
              b.base,
              record { from = omega arith; below = second },
              record { from = omega arith; below = omega (arith, has_bytes b.size) },
            )
            | inr above ↦ (
              a.base,
              record { from = omega arith; below = omega (arith, has_bytes a.size) },
              record { from = above; below = first },
            )
          ]),
      (λ o.
          let first : a.base < b.base + bytes_of b.size = omega (arith, o.1.from, o.2.below) in
          let second : b.base < a.base + bytes_of a.size = omega (arith, o.2.from, o.1.below) in
          and_from _ _ (lt-ltb _ _ first) (lt-ltb _ _ second)),
    )

pub ruleset tests = (is_canonical-IsCanonical, fits-IsPageOf, holds-Holds, overlaps-Overlap)
