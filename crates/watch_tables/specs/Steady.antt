-- Stores at which the ways to tables stay.
use Rattle.std.specs.Prelude.{ℕ, ◌≡◌, List}
use Rattle.pte.specs.declared.scheme.Scheme.{Scheme}
use Rattle.walk.specs.Leads.{Tables}
use Rattle.walk.specs.Maps.{page_number}
use Rattle.watch.specs.declared.trace.Record.TheVariants.{Store}
use Rattle.watch.specs.Trace.{index_of, words_after}
use Rattle.watch_tables.specs.declared.way.Way.{Way}
use Rattle.watch_tables.specs.Ways.{AreWays}

-- each word but the one at the address is stored since the same record
abbrev pub IsSinceBut : ℕ → (ℕ → ℕ → ℕ) → (ℕ → ℕ → ℕ) → Type 0
IsSinceBut address old new =
    (t i : ℕ) → ¬ ((t ≡ page_number address) × (i ≡ index_of address)) → new t i ≡ old t i

-- after a store of the word at the address, the ways to each table are those before it
abbrev pub KeepsWays : Tables → (ℕ → ℕ → ℕ) → ℕ → ℕ → Type 0
KeepsWays words old address word =
    (scheme : Scheme) (new : ℕ → ℕ → ℕ) (hart table : ℕ) (ways : List Way)
    → IsSinceBut address old new → AreWays scheme words old table ways
    → AreWays scheme (words_after (Store hart address word) words) new table ways
