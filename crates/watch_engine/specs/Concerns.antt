-- What a record can concern of what harts may hold.
use Rattle.std.specs.Prelude.{ℕ, Bool, true, List, ◌==◌, ◌&&◌, ◌||◌}
use Rattle.std.specs.List.{list_any}
use Rattle.pte.specs.declared.scheme.Scheme.{Scheme}
use Rattle.tlb.specs.Fence.{is_fenced}
use Rattle.watch.specs.Trace.{index_of}
use Rattle.watch_tables.specs.declared.way.Way.{Way}
use Rattle.watch_engine.specs.declared.held.Held.{Held}
use Rattle.watch_engine.specs.declared.concern.Concern.{Concern}
use Rattle.watch_engine.specs.declared.concern.Concern.TheVariants.{All, Fence, Given, Remote, Store}
use Rattle.watch_engine.specs.Causes.{applies}
use Rattle.watch_engine.specs.Held.{is_taken_by}
use Rattle.watch_engine.specs.Touched.{is_below}

-- a fence of the hart drops it, a remote fence takes it, the cause is of it, or its page lies below
-- the word at the address on the way, from its root or, where it is global, from a root; `All` is of
-- each
abbrev pub concerns : Concern → Held → Bool
concerns (Fence scheme hart rs1 rs2) i = (hart == i.hart) && is_fenced scheme rs1 rs2 i.entry
concerns (Remote scheme fence) i = is_taken_by scheme fence i
concerns (Given cause) i = applies cause i
concerns (Store scheme address way is_root) i =
    is_below scheme (index_of address) i.entry.page way
    && ((way.root == i.root) || (i.entry.global && is_root))
concerns All i = true

-- the concern of a store on a way to the word's table
abbrev pub store_on : Scheme → List ℕ → ℕ → Way → Concern
store_on scheme roots address way = Store scheme address way (list_any (λ r. r == way.root) roots)
