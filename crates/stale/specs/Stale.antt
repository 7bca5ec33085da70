-- Stale mappings: what a TLB holds while the page tables of its address space do not map it so. It
-- is what Coherent denies.
use Rattle.pte.specs.Address.{Span}
use Rattle.spaces.specs.declared.places.Place.{Place}
use Rattle.std.specs.Prelude.{ℕ, Bool, true, false, ◌≡◌, ◌∷◌, Some}
use Rattle.pte.specs.declared.permission.Access.{Access}
use Rattle.pte.specs.declared.permission.Ctx.{Ctx}
use Rattle.walk.specs.Maps.{page_number}
use Rattle.tlb.specs.declared.store.Entry.{Entry}
use Rattle.tlb.specs.Entries.{first_match}
use Rattle.tlb.specs.Mappings.{Mapping, IsMappingOf, IsMappedBy}
use Rattle.history.specs.Setup.{Setup}
use Rattle.history.specs.declared.event.Event.TheVariants.{Begin, Unmap}
use Rattle.history.specs.declared.reply.Reply.{Reply}
use Rattle.history.specs.declared.reply.Reply.TheVariants as reply
use Rattle.history.specs.Turns.{Turn, History}
use Rattle.history.specs.Spaces.{asid_of}
use Rattle.history.specs.Harts.{space_of, entries_of}
use Rattle.history.specs.Tables.{words_of}
use Rattle.history.specs.Staleness.{IsMappedNow}

-- the TLB of the hart holds the mapping, and the tables do not map it so now
pub record Stale (setup : Setup) (history : History) (hart : ℕ) (m : Mapping) : Type 0 where
  pub held : IsMappedBy (entries_of setup history hart) m
  pub unmapped : ¬ IsMappedNow setup history (words_of setup history) m.asid m

-- the turn makes the mapping stale
pub record BecomesStale (setup : Setup) (turn : Turn) (history : History) (hart : ℕ)
    (m : Mapping) : Type 0 where
  pub after : Stale setup (turn ∷ history) hart m
  pub before : ¬ Stale setup history hart m

-- the reply is a hit
abbrev pub is_hit : Reply → Bool
is_hit (reply.Hit pa) = true
is_hit _ = false

-- the turn is an access of the hart that its TLB answers by this mapping, that of the oldest entry
-- that matches
pub record Uses (setup : Setup) (turn : Turn) (history : History) (hart : ℕ)
    (m : Mapping) : Type 0 where
  pub va : ℕ
  pub access : Access
  pub ctx : Ctx
  pub event : turn.event ≡ Begin hart va access ctx
  pub hit : is_hit turn.reply ≡ true
  pub entry : Entry
  pub first : first_match (entries_of setup history hart)
      (asid_of setup history (space_of history hart)) va ≡ Some entry
  pub is : IsMappingOf entry m
  pub page : m.page ≡ page_number va

-- the turn uses a mapping that is stale at that moment
pub record UsesStale (setup : Setup) (turn : Turn) (history : History) (hart : ℕ)
    (m : Mapping) : Type 0 where
  pub uses : Uses setup turn history hart m
  pub stale : Stale setup history hart m

-- the turn of an unmapping that opens an order under a ticket
abbrev pub unmapping : ℕ → Place → Span → ℕ → ℕ → Turn
unmapping hart place page named ticket =
    record { event = Unmap hart place page named; reply = reply.Opened ticket }
