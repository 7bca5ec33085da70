-- What the service of a request leaves: the entries that stay under every fence that the request
-- stands for.
use Rattle.std.specs.Prelude.{⊤, ℕ, Bool, true, ◌≡◌, ◌↔◌, ◌&&◌, not, IsTrue, Some}
use Rattle.std.specs.Prelude.{None, List, filter}
use Rattle.pte.specs.declared.scheme.Scheme.{Scheme}
pub use Rattle.pte.specs.Address.{overlaps}
use Rattle.pte.specs.Address.{Holds, IsPageOf}
use Rattle.pte.specs.declared.address.What.{What}
use Rattle.pte.specs.declared.address.What.TheVariants.{PageOf, SpaceOf, All}
use Rattle.tlb.specs.declared.store.Entry.{Entry}
use Rattle.tlb.specs.Fence.{is_fenced, is_of_space}

-- the entry stays: for a page, under the fence of each address of the page
abbrev pub Stays : Scheme → What → Entry → Type 0
Stays scheme (PageOf page asid) e =
    (va : ℕ) → Holds page va → IsTrue (not (is_fenced scheme (Some va) asid e))
Stays scheme (SpaceOf asid) e = IsTrue (not (is_fenced scheme None (Some asid) e))
Stays scheme All e = IsTrue (not (is_fenced scheme None None e))

-- new has the entries of old that stay, in the same order
pub record Served (scheme : Scheme) (old : List Entry) (what : What)
    (new : List Entry) : Type 0 where
  pub stays : Entry → Bool
  pub each : (e : Entry) → IsTrue (stays e) ↔ Stays scheme what e
  pub left : new ≡ filter stays old

-- the entry goes: for a page, some address of the page has a fence that takes it out
abbrev pub Goes : Scheme → What → Entry → Type 0
Goes scheme (PageOf page asid) e =
    (va : ℕ) × Holds page va × IsTrue (is_fenced scheme (Some va) asid e)
Goes scheme (SpaceOf asid) e = IsTrue (is_fenced scheme None (Some asid) e)
Goes scheme All e = IsTrue (is_fenced scheme None None e)

-- the page of a request is one of the scheme
abbrev pub IsRequest : Scheme → What → Type 0
IsRequest scheme (PageOf page asid) = IsPageOf scheme page
IsRequest scheme (SpaceOf asid) = ⊤
IsRequest scheme All = ⊤

-- the same by one test: the request drops the entry
abbrev pub is_dropped : What → Entry → Bool
is_dropped (PageOf page None) e = overlaps page e.page
is_dropped (PageOf page (Some asid)) e = overlaps page e.page && is_of_space asid e
is_dropped (SpaceOf asid) e = is_of_space asid e
is_dropped All e = true

-- the entries that a request leaves
abbrev pub after_service : List Entry → What → List Entry
after_service entries what = filter (λ e. not (is_dropped what e)) entries
