-- A remote fence stands for the fences for the addresses of its range.
use Rattle.std.proofs.Common.{ℕ, ◌+◌, ◌<◌, ◌≤◌, Option, Some, None, IsTrue, refl, inl, inr, arith}
use Rattle.std.specs.Prelude.{◌↔◌}
use Rattle.std.proofs.lemmas.Bool.{and_parts, and_from}
use Rattle.pte.specs.declared.scheme.Scheme.{Scheme}
use Rattle.pte.specs.Address.{Holds, IsPageOf, bytes_of, holds, is_canonical, level_of}
use Rattle.pte.proofs.Schemes.{is_canonical-IsCanonical}
use Rattle.tlb.proofs.Overlapping.{holds-Holds, Holds-canonical}
use Rattle.std.proofs.lemmas.Bool.Decides.{nat_tests}
use Rattle.std.proofs.lemmas.Bool.{cases_lt}
use Rattle.std.proofs.lemmas.Nat.{pow_pos}
use Rattle.std.specs.Prelude.{nat_lt, ◌*◌}
use Rattle.watch.specs.declared.trace.AddressRange.{AddressRange}
use Rattle.tlb.specs.declared.store.Entry.{Entry}
use Rattle.tlb.specs.Fence.{is_fenced, is_of_address, is_of_space}
use Rattle.watch.specs.Holding.{is_covered, reaches}

-- a remote fence covers what a fence for some address of its range covers
shared : (scheme : Scheme) (range : AddressRange) (e : Entry) → IsPageOf scheme e.page → IsTrue (reaches (Some range) e.page)
    → (va : ℕ) × (range.start ≤ va) × (va < range.start + range.size) × IsTrue (is_of_address scheme va e)
shared scheme range e page on =
    let all = and_parts (nat_lt 0 range.size) _ on in
    let parts = and_parts (nat_lt range.start (e.page.base + bytes_of e.page.size)) (nat_lt e.page.base (range.start + range.size)) all.1 in
    let some : 0 < range.size = grind (arith, nat_tests) in
    let start : range.start < e.page.base + bytes_of e.page.size = grind (arith, nat_tests) in
    let end : e.page.base < range.start + range.size = grind (arith, nat_tests) in
    let room : 0 < bytes_of e.page.size = pow_pos (12 + 9 * level_of e.page.size) in
    elim (cases_lt range.start e.page.base) [
      | inl before ↦
          let h : Holds e.page e.page.base = record { from = omega arith; below = omega arith } in (
            e.page.base,
            omega arith,
            end,
            and_from _ _ ((is_canonical-IsCanonical scheme e.page.base).1 (Holds-canonical scheme e.page e.page.base page h)) ((holds-Holds e.page e.page.base).1 h),
          )
      | inr within ↦
          let h : Holds e.page range.start = record { from = within; below = start } in (
            range.start,
            omega arith,
            omega arith,
            and_from _ _ ((is_canonical-IsCanonical scheme range.start).1 (Holds-canonical scheme e.page range.start page h)) ((holds-Holds e.page range.start).1 h),
          )
    ]

reached : (scheme : Scheme) (range : AddressRange) (e : Entry) (va : ℕ) → range.start ≤ va → va < range.start + range.size → IsTrue (is_of_address scheme va e) → IsTrue (reaches (Some range) e.page)
reached scheme range e va from below on =
    let h = (holds-Holds e.page va).0 (and_parts (is_canonical scheme va) (holds e.page va) on).1 in
    let size : 0 < range.size = omega arith in
    let before : range.start < e.page.base + bytes_of e.page.size = omega (arith, h.below) in
    let after : e.page.base < range.start + range.size = omega (arith, h.from) in
    let some : IsTrue (nat_lt 0 range.size) = grind (arith, nat_tests) in
    let start : IsTrue (nat_lt range.start (e.page.base + bytes_of e.page.size)) = grind (arith, nat_tests) in
    let end : IsTrue (nat_lt e.page.base (range.start + range.size)) = grind (arith, nat_tests) in
    and_from _ _ some (and_from _ _ start end)

with_asid : (scheme : Scheme) (va : ℕ) (asid : Option ℕ) (e : Entry) → IsTrue (is_of_address scheme va e) → IsTrue (is_fenced scheme None asid e) → IsTrue (is_fenced scheme (Some va) asid e)
with_asid scheme va None e there space = there
with_asid scheme va (Some asid) e there space = and_from _ _ there space

address-of : (scheme : Scheme) (va : ℕ) (asid : Option ℕ) (e : Entry) → IsTrue (is_fenced scheme (Some va) asid e) → IsTrue (is_of_address scheme va e) × IsTrue (is_fenced scheme None asid e)
address-of scheme va None e on = (on, refl)
address-of scheme va (Some asid) e on = and_parts (is_of_address scheme va e) (is_of_space asid e) on

pub covered_by_addresses : (scheme : Scheme) (harts : ℕ) (range : AddressRange) (asid : Option ℕ) (e : Entry) → IsPageOf scheme e.page
    → IsTrue (is_covered scheme (record { harts = harts; range = Some range; asid = asid }) e) ↔ ((va : ℕ) × (range.start ≤ va) × (va < range.start + range.size) × IsTrue (is_fenced scheme (Some va) asid e))
covered_by_addresses scheme harts range asid e page = (
  (λ on.
      let parts = and_parts (reaches (Some range) e.page) (is_fenced scheme None asid e) on in
      let at = shared scheme range e page parts.0 in
      (at.0, at.1, at.2, with_asid scheme at.0 asid e at.3 parts.1)),
  (λ at.
      let parts = address-of scheme at.0 asid e at.3 in
      and_from _ _ (reached scheme range e at.0 at.1 at.2 parts.0) parts.1),
)
