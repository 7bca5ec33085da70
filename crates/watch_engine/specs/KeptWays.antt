-- The ways to the tables of the last stores.
use Rattle.std.specs.Prelude.{ℕ, List}
use Rattle.std.specs.List.{All}
use Rattle.pte.specs.declared.scheme.Scheme.{Scheme}
use Rattle.walk.specs.Leads.{Tables}
use Rattle.watch_tables.specs.declared.way.Way.{Way}
use Rattle.watch_tables.specs.Ways.{AreWays}
use Rattle.watch_engine.specs.declared.kept_ways.KeptWays.{KeptWays}
use Rattle.watch_engine.specs.declared.kept_ways.KnownWays.{KnownWays}

-- the ways are those to their table
abbrev pub AreOfTable : Scheme → Tables → (ℕ → ℕ → ℕ) → KnownWays → Type 0
AreOfTable scheme words since known = ∥ AreWays scheme words since known.table known.ways.items ∥₁

-- so are all that are kept
abbrev pub AreKept : Scheme → Tables → (ℕ → ℕ → ℕ) → KeptWays → Type 0
AreKept scheme words since kept = All (AreOfTable scheme words since) kept.known.items

-- the ways to each table in the one memory are those in the other too
abbrev pub WaysStay : Scheme → Tables → (ℕ → ℕ → ℕ) → Tables → (ℕ → ℕ → ℕ) → Type 0
WaysStay scheme words since others new = (table : ℕ) (ways : List Way)
    → AreWays scheme words since table ways → AreWays scheme others new table ways
