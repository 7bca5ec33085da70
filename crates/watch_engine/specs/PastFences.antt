-- By which key a fence that has been executed is found, for entries of pages of a size: by its ASID if it
-- has one, and by the page if all its addresses lie in one of that size.
use Rattle.std.specs.Prelude.{ℕ, Bool, false, ◌+◌, ◌-◌, ◌*◌, ◌/◌, ◌%◌, ◌^◌, ◌≡◌, ◌≤◌, ◌==◌, ◌&&◌, ◌||◌, nat_le, not, if◌then◌else◌}
use Rattle.std.specs.Prelude.{List, drop, length, map, take, Option, None, Some}
use Rattle.std.specs.List.{list_any}
use Rattle.pte.specs.Address.{bytes_of}
use Rattle.pte.specs.declared.address.PageSize.{PageSize}
use Rattle.pte.specs.declared.scheme.Scheme.{Scheme}
use Rattle.pte.specs.declared.TheConstants.{ASID_BITS}
use Rattle.tlb.specs.declared.store.Entry.{Entry}
use Rattle.watch.specs.declared.trace.AddressRange.{AddressRange}
use Rattle.watch_engine.specs.Left.{is_taken_since, takes}
use Rattle.watch_engine.specs.declared.left.Left.{Left}
use Rattle.watch_engine.specs.declared.left.PastFence.{PastFence}
use Rattle.watch_engine.specs.declared.left.PastFence.TheVariants.{Own, Remote}

-- an ASID, or what stands for all of them
abbrev pub asid_key : Option ℕ → ℕ
asid_key None = 2 ^ ASID_BITS
asid_key (Some asid) = asid % 2 ^ ASID_BITS

-- the page of a size that an address lies in, of the 2 ^ 36 or fewer of canonical addresses, and the ASID
abbrev pub address_key : PageSize → ℕ → Option ℕ → ℕ
address_key size address asid = address / bytes_of size % 2 ^ 36 * 2 ^ 17 + asid_key asid

abbrev pub wide_key : Option ℕ → ℕ
wide_key asid = 2 ^ 53 + asid_key asid

-- all addresses of the range lie in one page
abbrev pub is_in_page : PageSize → AddressRange → Bool
is_in_page size range = nat_le range.size (bytes_of size - range.start % bytes_of size)

abbrev pub range_key : PageSize → Option AddressRange → Option ℕ → ℕ
range_key size None asid = wide_key asid
range_key size (Some range) asid =
    if is_in_page size range then address_key size range.start asid else wide_key asid

abbrev pub fence_key : PageSize → PastFence → ℕ
fence_key size (Own of None rs2) = wide_key rs2
fence_key size (Own of (Some address) rs2) = address_key size address rs2
fence_key size (Remote fence begun) = range_key size fence.range fence.asid

-- the keys are those of the oldest fences
abbrev pub AreOldest : PageSize → List PastFence → List ℕ → Type 0
AreOldest size fences keys = keys ≡ map (fence_key size) (take (length keys) fences)

-- a fence with the key since the hart left the space has dropped the entry
abbrev pub takes_by : ℕ → Scheme → Left → Entry → PastFence → Bool
takes_by key scheme l e fence = takes scheme l e fence && (fence_key e.page.size fence == key)

abbrev pub is_taken_by : ℕ → Scheme → List PastFence → Left → Entry → Bool
is_taken_by key scheme fences l e = list_any (takes_by key scheme l e) (drop l.fences fences)

-- the same of fences with the ASID of the entry, which drop nothing that is global
abbrev pub is_taken_by_asid : Scheme → List PastFence → Left → Entry → Bool
is_taken_by_asid scheme fences l e =
    not e.global
    && (is_taken_by (address_key e.page.size e.page.base (Some e.asid)) scheme fences l e
    || is_taken_by (wide_key (Some e.asid)) scheme fences l e)

-- of so many fences none has dropped the entry since the hart left the space, which was no later
pub record NoneBefore (scheme : Scheme) (fences : List PastFence) (l : Left) (e : Entry) (n : ℕ) : Type 0 where
  pub since : l.fences ≤ n
  pub none : is_taken_since scheme (take n fences) l e ≡ false
