-- Which translations a hart may hold: any that was valid since the last fence that covers it
-- (privileged manual 4.2.1, Supervisor Memory-Management Fence Instruction).
use Rattle.std.specs.Prelude.{ℕ, Bool, true, false, ◌≡◌, ◌+◌, ◌%◌, ◌==◌, ◌&&◌, ◌⊎◌, ◌↔◌, nat_lt}
use Rattle.std.specs.Prelude.{[], ◌∷◌, ◌++◌, Option, Some, None, IsTrue}
use Rattle.std.specs.Int.{bit_at}
use Rattle.pte.specs.declared.scheme.Scheme.{Scheme}
use Rattle.pte.specs.declared.entry.Kind.TheVariants.{Leaf}
use Rattle.pte.specs.Address.{IsPageOf, Span, bytes_of, level_of, pages_of}
use Rattle.pte.specs.Entry.{kind_of}
use Rattle.walk.specs.Leads.{Tables, Leads, IsGlobalAt}
use Rattle.tlb.specs.declared.store.Entry.{Entry}
use Rattle.tlb.specs.Fence.{is_fenced}
use Rattle.watch.specs.declared.trace.Record.{Record}
use Rattle.watch.specs.declared.trace.Record.TheVariants.{Fence, RemoteEnd}
use Rattle.watch.specs.declared.trace.AddressRange.{AddressRange}
use Rattle.watch.specs.declared.trace.RemoteFence.{RemoteFence}
use Rattle.watch.specs.declared.trace.Space.{Space}
use Rattle.watch.specs.Trace.{Trace, words_of, satp_of, fence_of, begins_fence}

-- a translation: the entry of a TLB, and the root whose tables it came from. Of what is global
-- neither the root nor the ASID says anything
pub record Translation : Type 0 where
  pub root : ℕ
  pub entry : Entry

-- the tables of a root have the entry, whatever its ASID: for the base of its page an aligned leaf
-- leads at the level of the page's size; the PPN and the flags are the leaf's, and global says
-- whether G is on the leaf or on a pointer above it (4.3.2, steps 1 to 8; 4.3.1, G)
pub record HasLeaf (scheme : Scheme) (words : Tables) (root : ℕ) (e : Entry) : Type 0 where
  pub table : ℕ
  pub word : ℕ
  pub page : IsPageOf scheme e.page
  pub leads : Leads scheme words root e.page.base (level_of e.page.size) table (Some word)
  pub kind : kind_of word ≡ Leaf e.ppn e.flags
  pub aligned : e.ppn % pages_of e.page.size ≡ 0
  pub global : IsTrue e.global ↔ IsGlobalAt scheme words root e.page.base (level_of e.page.size)

-- the translation is of the address space: it came from its root and has its ASID or, where it is
-- global, it is of all, whatever its root and its ASID (4.3.1, G)
abbrev pub BelongsTo : Space → Translation → Type 0
BelongsTo space x = IsTrue x.entry.global ⊎ (space ≡ record { root = x.root; asid = x.entry.asid })

-- the hart can fill the entry now: it is of the address space in the hart's satp, and the tables of
-- that space have the leaf
pub record Live (scheme : Scheme) (trace : Trace) (hart : ℕ) (x : Translation) : Type 0 where
  pub space : Space
  pub satp : satp_of trace hart ≡ Some space
  pub belongs : BelongsTo space x
  pub leaf : HasLeaf scheme (words_of trace) space.root x.entry

-- some address of the range lies in the page
abbrev pub reaches : Option AddressRange → Span → Bool
reaches None page = true
reaches (Some range) page =
    nat_lt 0 range.size
    && (nat_lt range.start (page.base + bytes_of page.size)
    && nat_lt page.base (range.start + range.size))

-- a fence for each address of the range, or for all, with the ASID, takes the entry out
abbrev pub is_covered : Scheme → RemoteFence → Entry → Bool
is_covered scheme fence e = reaches fence.range e.page && is_fenced scheme None fence.asid e

-- the fence is executed by the hart
abbrev pub names : RemoteFence → ℕ → Bool
names fence hart = bit_at fence.harts hart == 1

-- the translation was live for the hart at some moment since the newest begin under the token
abbrev pub LiveSince : Scheme → ℕ → Trace → ℕ → Translation → Type 0
LiveSince scheme token [] hart x = ⊥
LiveSince scheme token (newest ∷ trace) hart x =
    Live scheme (newest ∷ trace) hart x
    ⊎ ((begins_fence token newest ≡ false) × LiveSince scheme token trace hart x)

-- a remote fence that ends drops, from each hart that it names, what it covers and what was not
-- live for the hart since it began: the hart executed it at some moment in between
pub record DropsAtEnd (scheme : Scheme) (token : ℕ) (trace : Trace) (hart : ℕ)
    (x : Translation) : Type 0 where
  pub fence : RemoteFence
  pub begun : fence_of trace token ≡ Some fence
  pub named : IsTrue (names fence hart)
  pub covered : IsTrue (is_covered scheme fence x.entry)
  pub not_live : ¬ LiveSince scheme token trace hart x

-- what the record takes from the hart that may have held it after the trace: a fence drops of its
-- own hart alone what it covers (4.2.1)
abbrev pub Drops : Scheme → Record → Trace → ℕ → Translation → Type 0
Drops scheme (Fence of rs1 rs2) trace hart x =
    (of ≡ hart) × IsTrue (is_fenced scheme rs1 rs2 x.entry)
Drops scheme (RemoteEnd of token) trace hart x = DropsAtEnd scheme token trace hart x
Drops scheme _ trace hart x = ⊥

-- the hart may hold the translation: it is live now, or was held before and is not dropped
abbrev pub MayHold : Scheme → Trace → ℕ → Translation → Type 0
MayHold scheme [] hart x = Live scheme [] hart x
MayHold scheme (newest ∷ trace) hart x =
    Live scheme (newest ∷ trace) hart x
    ⊎ (MayHold scheme trace hart x × ¬ Drops scheme newest trace hart x)

-- the record is a fence of the hart itself, or ends a remote fence that names it
abbrev pub is_named : Option RemoteFence → ℕ → Bool
is_named None hart = false
is_named (Some fence) hart = names fence hart

abbrev pub is_fence_for : Record → Trace → ℕ → Bool
is_fence_for (Fence of rs1 rs2) trace hart = of == hart
is_fence_for (RemoteEnd of token) trace hart = is_named (fence_of trace token) hart
is_fence_for _ trace hart = false

-- the manual's sentence: it was live at some moment, and no record since has dropped it
pub record HeldSince (scheme : Scheme) (trace : Trace) (hart : ℕ)
    (x : Translation) : Type 0 where
  pub later : Trace
  pub earlier : Trace
  pub split : trace ≡ later ++ earlier
  pub live : Live scheme earlier hart x
  pub kept : (after : Trace) (newest : Record) (before : Trace) → later ≡ after ++ newest ∷ before
      → ¬ Drops scheme newest (before ++ earlier) hart x
