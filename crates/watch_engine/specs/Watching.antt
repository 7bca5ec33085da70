-- What a watch follows.
use Rattle.std.specs.Prelude.{ℕ, ◌≡◌, None, get_or}
use Rattle.walk.specs.Leads.{Tables}
use Rattle.watch.specs.Trace.{Trace}
use Rattle.watch_engine.specs.declared.engine.Watch.{Watch}
use Rattle.watch_engine.specs.declared.tables.Tables.{Ghosts}
use Rattle.watch_engine.specs.Standing.{Stands}
use Rattle.watch_engine.specs.View.{View}

-- what it reads
abbrev pub view_in : {T : Type 0} {g : Ghosts T} → (T → Tables) → (T → ℕ → ℕ → ℕ) → Watch T g → View
view_in words since w =
    record {
      scheme = w.scheme;
      words = words w.tables;
      since = since w.tables;
      satps = w.satps.spaces.items;
      roots = w.roots;
      left = w.left;
      drops = w.drops.fences.items;
      count = w.count;
    }

-- the watch has seen the records of the trace
abbrev pub Follows : {T : Type 0} {g : Ghosts T} → (T → Tables) → (T → ℕ → ℕ → ℕ) → Trace → Watch T g → Type 0
Follows words since trace w = Stands trace (view_in words since w) w.held w.fences.items w.claims.items

-- What a refused record leaves as it was: tables, satps, roots, spaces that were left, fences, claims
-- and the count of records. Of the list of held translations nothing is said, nor of cached ways.
abbrev pub KeepsAll : {T : Type 0} {g : Ghosts T} → (T → Tables) → (T → ℕ → ℕ → ℕ) → Watch T g → Watch T g → Type 0
KeepsAll words since old new =
    (words new.tables ≡ words old.tables)
    × (since new.tables ≡ since old.tables)
    × ((hart : ℕ) → get_or new.satps.spaces.items hart None ≡ get_or old.satps.spaces.items hart None)
    × (new.roots ≡ old.roots)
    × (new.left ≡ old.left)
    × (new.drops.fences.items ≡ old.drops.fences.items)
    × (new.fences.items ≡ old.fences.items)
    × (new.claims.items ≡ old.claims.items)
    × (new.count ≡ old.count)
