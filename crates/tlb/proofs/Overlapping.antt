-- The addresses of pages.
use Rattle.std.proofs.Common.{◌≡◌, ℕ, ap, sym, ◌∙◌, ◌/◌, ◌+◌, ◌*◌, ◌-◌, ◌%◌, ◌^◌, ◌<◌, ◌≤◌, arith}
use Rattle.std.proofs.lemmas.Nat.{div-mul-add, shr_split}
use Rattle.pte.specs.declared.scheme.Scheme.{Scheme}
use Rattle.pte.specs.declared.address.PageSize.{PageSize}
use Rattle.pte.specs.Address.{Span, IsPageOf, Holds, IsCanonical, bytes_of, level_of, top_level}
pub use Rattle.pte.proofs.Tests.{holds-Holds, overlaps-Overlap}
use Rattle.walk.proofs.Pages.{same_canonical}

-- an address of a page that begins at a multiple of its size lies in the same row as its base
pub same_row : (base va k : ℕ) → base % 2 ^ k ≡ 0 → base ≤ va → va < base + 2 ^ k → base / 2 ^ k ≡ va / 2 ^ k
same_row base va k aligned from below =
    let whole : base / 2 ^ k * 2 ^ k + base % 2 ^ k ≡ base = shr_split base k in
    let rest : base / 2 ^ k * 2 ^ k + (va - base) ≡ va = omega arith in
    sym (div-mul-add (base / 2 ^ k) (2 ^ k) (va - base) (omega arith)) ∙ ap (λ n. n / 2 ^ k) rest

-- each address of a page of a scheme is canonical
all_canonical : (scheme : Scheme) (size : PageSize) (base va : ℕ) → level_of size ≤ top_level scheme → IsCanonical scheme base → base % bytes_of size ≡ 0 → base ≤ va → va < base + bytes_of size → IsCanonical scheme va
all_canonical scheme size base va level canonical aligned from below = same_canonical scheme base va (level_of size) level (same_row base va (12 + 9 * level_of size) aligned from below) canonical

pub Holds-canonical : (scheme : Scheme) (p : Span) (va : ℕ) → IsPageOf scheme p → Holds p va → IsCanonical scheme va
Holds-canonical scheme p va page h = all_canonical scheme p.size p.base va page.level page.canonical page.aligned h.from h.below
