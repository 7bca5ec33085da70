-- Which events touch a TLB, and what they find there or in the tables: for the laws of
-- src/translations.rt.
use Rattle.std.specs.Prelude.{ℕ, true, ◌≡◌, ◌<◌, ◌⊎◌, List, ◌∷◌, ◌++◌, Option, Some, None, Result}
use Rattle.pte.specs.Address.{Holds}
use Rattle.walk.specs.declared.found_or_trap.Found.{Found}
use Rattle.walk.specs.declared.found_or_trap.Trap.{Trap}
use Rattle.walk.specs.Outcome.{Outcome}
use Rattle.spaces.specs.Layout.{root_ppn}
use Rattle.tlb.specs.declared.store.Entry.{Entry}
use Rattle.history.specs.declared.event.Event.TheVariants.{Load, Fence, ServeFence, AckSelf}
use Rattle.history.specs.declared.reply.Reply.TheVariants as reply
use Rattle.history.specs.Setup.{Setup}
use Rattle.history.specs.Turns.{Turn, History}
use Rattle.history.specs.Tables.{words_of}
use Rattle.history.specs.Service.{served}
use Rattle.history.specs.Harts.{Walking, walk_of, space_of}
use Rattle.history.specs.Occurrences.{LeadsOn, IsProgress}

-- the hart exists, is in no walk, and serves no request
pub record MayBegin (setup : Setup) (history : History) (hart : ℕ) : Type 0 where
  pub there : hart < setup.harts
  pub still : walk_of history hart ≡ None
  pub free : served setup history hart ≡ None

-- the entry's page has the address, and the entry is global or of the ASID
abbrev pub Matches : ℕ → ℕ → Entry → Type 0
Matches asid va e = Holds e.page va × ((e.global ≡ true) ⊎ (e.asid ≡ asid))

-- the entry matches, and no older one does
pub record IsFirstMatch (entries : List Entry) (asid va : ℕ) (e : Entry) : Type 0 where
  pub older : List Entry
  pub younger : List Entry
  pub split : entries ≡ older ++ e ∷ younger
  pub matches : Matches asid va e
  pub none_older : (other : Entry) (front back : List Entry) → older ≡ front ++ other ∷ back
      → ¬ Matches asid va other

-- no entry matches
abbrev pub NoneMatches : List Entry → ℕ → ℕ → Type 0
NoneMatches entries asid va =
    (other : Entry) (front back : List Entry) → entries ≡ front ++ other ∷ back
    → ¬ Matches asid va other

-- the hart is in this walk, the address leads to no further pointer, and this is the outcome of its
-- access in the current words
pub record WalkEnds (setup : Setup) (history : History) (hart : ℕ) (walk : Walking)
    (answer : Result Found Trap) : Type 0 where
  pub there : hart < setup.harts
  pub walking : walk_of history hart ≡ Some walk
  pub last : ¬ LeadsOn setup.layout.scheme (words_of setup history)
      (root_ppn setup.layout (space_of history hart)) walk
  pub outcome : Outcome setup.layout.scheme (words_of setup history)
      (root_ppn setup.layout (space_of history hart)) walk.va walk.access walk.ctx answer

-- an accepted turn of the hart that touches its TLB: a Load that fills, a Fence, a ServeFence, an
-- AckSelf
abbrev pub Fills : ℕ → Turn → Type 0
Fills hart turn = (turn.event ≡ Load hart) × ((pa : ℕ) × (turn.reply ≡ reply.Filled pa))

abbrev pub Fences : ℕ → Turn → Type 0
Fences hart turn =
    ((rs1 rs2 : Option ℕ) × (turn.event ≡ Fence hart rs1 rs2)) × (turn.reply ≡ reply.Ok)

abbrev pub Serves : ℕ → Turn → Type 0
Serves hart turn = (turn.event ≡ ServeFence hart) × (turn.reply ≡ reply.Ok)

abbrev pub AcknowledgesOwn : ℕ → Turn → Type 0
AcknowledgesOwn hart turn =
    ((ticket : ℕ) × (turn.event ≡ AckSelf hart ticket)) × IsProgress turn.reply

abbrev pub TouchesTlb : ℕ → Turn → Type 0
TouchesTlb hart turn =
    Fills hart turn ⊎ (Fences hart turn ⊎ (Serves hart turn ⊎ AcknowledgesOwn hart turn))
