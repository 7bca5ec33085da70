-- The last moves by which the harts come back to an ASID: a finding that begins behind them is not reached.
use Rattle.std.specs.Prelude.{ℕ, Bool, true, false, ◌≡◌, ◌==◌, ◌&&◌, ◌+◌, not, nat_le, if◌then◌else◌, List, [], ◌∷◌, Option, Some, None}
use Rattle.std.specs.BTreeMap.{BTreeMap, get}
use Rattle.std.specs.List.{list_any}
use Rattle.std.specs.Option.{unwrap_or}
use Rattle.std.specs.Ordering.{bool_cmp, nat_cmp, ordering_then}
use Rattle.std.specs.declared.cmp.Ordering.{Ordering}
use Rattle.watch_engine.specs.declared.warning.Warning.{Warning}
use Rattle.watch_engine.specs.Held.{own}
use Rattle.watch_causes.specs.declared.moves.Move.{Move}
use Rattle.watch_causes.specs.declared.moves.Move.TheVariants.{Fences, Writes}
use Rattle.watch_causes.specs.declared.returns.Visit.{Visit}
use Rattle.watch_causes.specs.Decisions.{is_under_asid}

-- by the move the hart comes back to the translation
abbrev pub returns_to : Warning → Move → Bool
returns_to w (Writes hart asid) = (hart == w.hart) && is_under_asid w.entry asid
returns_to w (Fences at) = false

abbrev pub visit_under : ℕ → ℕ → Visit
visit_under hart asid = record { hart = hart; global = false; asid = asid }

abbrev pub any_visit : ℕ → Visit
any_visit hart = record { hart = hart; global = true; asid = 0 }

abbrev pub visit_of : Warning → Visit
visit_of w =
    record {
      hart = w.hart;
      global = w.entry.global;
      asid = own w.entry.global w.entry.asid;
    }

abbrev pub visit_cmp : Visit → Visit → Ordering
visit_cmp a b =
    ordering_then (nat_cmp a.hart b.hart)
    (ordering_then (bool_cmp a.global b.global) (nat_cmp a.asid b.asid))

abbrev pub last_in : BTreeMap Visit ℕ → Warning → ℕ
last_in lasts w = unwrap_or (get visit_cmp lasts (visit_of w)) 0

-- the hart comes back behind the start of a finding, if it has one
abbrev pub returns_behind : BTreeMap Visit ℕ → Warning → Option ℕ → Bool
returns_behind lasts w None = false
returns_behind lasts w (Some start) = not (nat_le (last_in lasts w) start)

-- how many of the moves go up to the last that returns
abbrev pub last_return : Warning → List Move → ℕ
last_return w [] = 0
last_return w (m ∷ moves) =
    if list_any (returns_to w) moves then last_return w moves + 1 else if returns_to w m then 1 else 0

abbrev pub AreLast : List Move → BTreeMap Visit ℕ → Type 0
AreLast moves lasts = (w : Warning) → last_in lasts w ≡ last_return w moves
