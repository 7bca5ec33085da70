-- Where the tables map a page of 4 KiB as an entry does, one leaf maps each so that lies in the
-- leaf's page and in the entry's.
use Rattle.std.proofs.Common.{◌≡◌, ℕ, ◌+◌, ◌*◌, ◌%◌, ◌^◌, ◌<◌, ◌≤◌, Bool, sym, subst, inl, inr, arith}
use Rattle.std.specs.Prelude.{Ok, ◌↔◌}
use Rattle.pte.specs.declared.scheme.Scheme.{Scheme}
use Rattle.pte.specs.declared.address.PageSize.{PageSize}
use Rattle.pte.specs.declared.address.PageSize.TheVariants.{Kib4, Mib2, Gib1, Gib512}
use Rattle.pte.specs.declared.permission.Access.{Access}
use Rattle.pte.specs.declared.permission.Ctx.{Ctx}
use Rattle.pte.specs.declared.flags.PteFlags.{PteFlags}
use Rattle.pte.specs.Address.{Span, Holds, IsCanonical, IsPage, bytes_of, page_around, pages_of, widest}
use Rattle.walk.specs.declared.found_or_trap.Found.{Found}
use Rattle.walk.specs.Answer.{size_at}
use Rattle.walk.specs.Leads.{Tables}
use Rattle.walk.specs.Maps.{Maps, page_number, LiesIn}
use Rattle.walk.specs.Outcome.{Outcome}
use Rattle.walk.proofs.FoundMembers.{found_at-outcome, found_page_member}
use Rattle.walk.proofs.Members.{one_member}
use Rattle.spaces.proofs.Numbers.{place-of-part}

-- the numbers of the pages of 4 KiB of a page
abbrev pub AreNumbers : Span → ℕ → Type 0
AreNumbers page n = LiesIn page n ↔ ((page_number page.base ≤ n) × (n < page_number page.base + pages_of page.size))

numbers_by : (base : ℕ) (size : PageSize) (n : ℕ) → base % bytes_of size ≡ 0 → AreNumbers (record { base = base; size = size }) n
numbers_by base Kib4 n e = ((λ l. (omega (arith, l.from), omega (arith, l.to))), (λ b. record { from = omega (arith, b.0, b.1); to = omega (arith, b.0, b.1) }))
numbers_by base Mib2 n e = ((λ l. (omega (arith, l.from), omega (arith, l.to))), (λ b. record { from = omega (arith, b.0, b.1); to = omega (arith, b.0, b.1) }))
numbers_by base Gib1 n e = ((λ l. (omega (arith, l.from), omega (arith, l.to))), (λ b. record { from = omega (arith, b.0, b.1); to = omega (arith, b.0, b.1) }))
numbers_by base Gib512 n e = ((λ l. (omega (arith, l.from), omega (arith, l.to))), (λ b. record { from = omega (arith, b.0, b.1); to = omega (arith, b.0, b.1) }))

pub numbers_of : (page : Span) → IsPage page → (n : ℕ) → AreNumbers page n
numbers_of page is n = numbers_by page.base page.size n is.aligned

below_all : (base : ℕ) → IsCanonical widest base → base < 2 ^ 64
below_all base (inl low) = omega arith
below_all base (inr high) = high.1

fit_by : (base : ℕ) (size : PageSize) → base < 2 ^ 64 → base % bytes_of size ≡ 0 → page_number base + pages_of size ≤ 2 ^ 52
fit_by base Kib4 below e = omega arith
fit_by base Mib2 below e = omega arith
fit_by base Gib1 below e = omega arith
fit_by base Gib512 below e = omega arith

pub numbers_fit : (page : Span) → IsPage page → page_number page.base + pages_of page.size ≤ 2 ^ 52
numbers_fit page is = fit_by page.base page.size (below_all page.base is.canonical) is.aligned

-- the page that is found has the address
around_lies : (va : ℕ) (size : PageSize) → LiesIn (page_around va size) (page_number va)
around_lies va Kib4 = record { from = omega arith; to = omega arith }
around_lies va Mib2 = record { from = omega arith; to = omega arith }
around_lies va Gib1 = record { from = omega arith; to = omega arith }
around_lies va Gib512 = record { from = omega arith; to = omega arith }

first_byte : (page : Span) (n : ℕ) → LiesIn page n → Holds page (n * 4096)
first_byte page n l = let from = l.from in let to = l.to in record { from = omega (arith, from); below = omega (arith, from, to) }

module _ (scheme : Scheme) (words : Tables) (root va : ℕ) (access : Access) (ctx : Ctx) (found : Found) (is : Outcome scheme words root va access ctx (Ok found)) where
  pub found_lies : LiesIn found.page (page_number va)
  found_lies = let at = found_at-outcome scheme words root va access ctx found is in subst (λ (p : Span). LiesIn p (page_number va)) (sym at.page) (around_lies va (size_at at.level))

  member : (n : ℕ) → LiesIn found.page n → Maps scheme words root n (found.ppn + n % pages_of found.page.size) found.flags found.global
  member n l =
      let number : page_number (n * 4096) ≡ n = omega arith in
      subst (λ k. Maps scheme words root k (found.ppn + k % pages_of found.page.size) found.flags found.global) number
      (found_page_member scheme words root va access ctx found is (n * 4096) (first_byte found.page n l))

  module _ (page : Span) (is_page : IsPage page) (found_page : IsPage found.page) (ppn : ℕ) (flags : PteFlags) (global : Bool) (here : LiesIn page (page_number va))
      (maps : Maps scheme words root (page_number va) (ppn + page_number va % pages_of page.size) flags global) where
    pub whole : (n : ℕ) → LiesIn page n → LiesIn found.page n → Maps scheme words root n (ppn + n % pages_of page.size) flags global
    whole n own there =
        let v = page_number va in
        let same = one_member scheme words root v (ppn + v % pages_of page.size) (found.ppn + v % pages_of found.page.size) flags found.flags global found.global maps (member v found_lies) in
        let a = place-of-part page.base page.size v is_page.aligned here in
        let b = place-of-part found.page.base found.page.size v found_page.aligned found_lies in
        let c = place-of-part page.base page.size n is_page.aligned own in
        let d = place-of-part found.page.base found.page.size n found_page.aligned there in
        let v_in : page_number page.base ≤ v = ((numbers_of page is_page v).0 here).0 in
        let v_at : page_number found.page.base ≤ v = ((numbers_of found.page found_page v).0 found_lies).0 in
        let n_in : page_number page.base ≤ n = ((numbers_of page is_page n).0 own).0 in
        let n_at : page_number found.page.base ≤ n = ((numbers_of found.page found_page n).0 there).0 in
        let frames : ppn + v % pages_of page.size ≡ found.ppn + v % pages_of found.page.size = same.same_ppn in
        let frame : found.ppn + n % pages_of found.page.size ≡ ppn + n % pages_of page.size = omega (arith, a, b, c, d, v_in, v_at, n_in, n_at, frames) in
        subst (λ k. Maps scheme words root n k flags global) frame
        (subst (λ (f : PteFlags). Maps scheme words root n (found.ppn + n % pages_of found.page.size) f global) (sym same.same_flags)
        (subst (λ (g : Bool). Maps scheme words root n (found.ppn + n % pages_of found.page.size) found.flags g) (sym same.same_global) (member n there)))
