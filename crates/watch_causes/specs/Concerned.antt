-- The moves that concern a hart: no other decides whether it comes back. The first move has the place 0.
use Rattle.std.specs.Prelude.{ℕ, Bool, false, ◌≡◌, ◌==◌, ◌&&◌, ◌||◌, ◌+◌, if◌then◌else◌, List, [], ◌∷◌, Option, Some, None, drop, get_or, slice_get}
use Rattle.std.specs.BTreeMap.{BTreeMap, get}
use Rattle.std.specs.Option.{option_or}
use Rattle.std.specs.Ordering.{nat_cmp}
use Rattle.std.specs.Global.{Vec}
use Rattle.pte.specs.declared.scheme.Scheme.{Scheme}
use Rattle.watch_engine.specs.declared.warning.Warning.{Warning}
use Rattle.watch_causes.specs.declared.begun.Begun.{Begun}
use Rattle.watch_causes.specs.declared.log.Numbered.{Numbered}
use Rattle.watch_causes.specs.declared.moves.Move.{Move}
use Rattle.watch_causes.specs.declared.moves.Move.TheVariants.{Fences, Writes}
use Rattle.watch_causes.specs.declared.returns.Visit.{Visit}
use Rattle.watch_causes.specs.Decisions.{decision}
use Rattle.watch_causes.specs.Reasons.{is_for}
use Rattle.watch_causes.specs.Returns.{returns_behind}

abbrev pub is_fence_for : ℕ → Option Numbered → Bool
is_fence_for hart None = false
is_fence_for hart (Some n) = is_for hart n.made

-- the hart writes its satp, or executes the fence
abbrev pub concerns : List Numbered → ℕ → Move → Bool
concerns fences hart (Writes of asid) = of == hart
concerns fences hart (Fences at) = is_fence_for hart (slice_get fences at)

-- their places, if the first of the moves has that place
abbrev pub places_from : List Numbered → ℕ → ℕ → List Move → List ℕ
places_from fences hart at [] = []
places_from fences hart at (m ∷ moves) =
    if concerns fences hart m then at ∷ places_from fences hart (at + 1) moves
    else places_from fences hart (at + 1) moves

abbrev pub places_of : List Numbered → ℕ → List Move → List ℕ
places_of fences hart moves = places_from fences hart 0 moves

-- ---- what the moves at some places decide

abbrev pub decision_by : Scheme → List Numbered → Warning → Option Move → Option Bool
decision_by scheme fences w None = None
decision_by scheme fences w (Some m) = decision scheme fences w m

-- by the first that decides
abbrev pub decided_at : Scheme → List Numbered → Warning → List Move → List ℕ → Option Bool
decided_at scheme fences w moves [] = None
decided_at scheme fences w moves (at ∷ places) =
    option_or (decision_by scheme fences w (slice_get moves at))
    (decided_at scheme fences w moves places)

-- ---- lists for some harts

-- the hart of some finding comes back to its ASID behind the start
abbrev pub any_returns : BTreeMap Visit ℕ → ℕ → List Begun → List (Option ℕ) → Bool
any_returns lasts hart [] starts = false
any_returns lasts hart (b ∷ begun) starts =
    ((b.warning.hart == hart) && returns_behind lasts b.warning (get_or starts 0 None))
    || any_returns lasts hart begun (drop 1 starts)

abbrev pub IsListed : List ℕ → Option (Vec ℕ) → Type 0
IsListed places None = Unit {0}
IsListed places (Some list) = list.items ≡ places

-- each list has the places of all moves that concern its hart
abbrev pub AreListed : List Numbered → List Move → BTreeMap ℕ (Vec ℕ) → Type 0
AreListed fences moves lists =
    (hart : ℕ) → IsListed (places_of fences hart moves) (get nat_cmp lists hart)
