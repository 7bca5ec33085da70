-- Which moves decide whether the hart of a warning comes back.
use Rattle.std.specs.Prelude.{ℕ, Bool, true, false, ◌==◌, ◌&&◌, ◌||◌, nat_lt, if◌then◌else◌, List, [], ◌∷◌, Option, Some, None, drop, slice_get}
use Rattle.std.specs.Option.{option_or, unwrap_or}
use Rattle.pte.specs.declared.scheme.Scheme.{Scheme}
use Rattle.tlb.specs.declared.store.Entry.{Entry}
use Rattle.watch.specs.declared.trace.Record.{Record}
use Rattle.watch.specs.declared.trace.Record.TheVariants.{RemoteBegin}
use Rattle.watch_engine.specs.declared.warning.Warning.{Warning}
use Rattle.watch_causes.specs.declared.log.Numbered.{Numbered}
use Rattle.watch_causes.specs.declared.moves.Move.{Move}
use Rattle.watch_causes.specs.declared.moves.Move.TheVariants.{Fences, Writes}
use Rattle.watch_causes.specs.Reasons.{covers, is_for}

abbrev pub is_under_asid : Entry → Option ℕ → Bool
is_under_asid e None = false
is_under_asid e (Some asid) = e.global || (asid == e.asid)

-- the hart executed the fence of that number after the page was stale: a remote one may be executed as
-- soon as it has begun
abbrev pub is_late : Warning → ℕ → Record → Bool
is_late w number (RemoteBegin hart token fence) = nat_lt w.stale_since number
is_late w number made = true

-- the fence, done, takes the translation from the hart
abbrev pub takes_it : Scheme → Warning → Numbered → Bool
takes_it scheme w n =
    is_for w.hart n.made && (covers scheme w.entry n.made && is_late w n.number n.made)

abbrev pub by_fence : Scheme → Warning → Option Numbered → Option Bool
by_fence scheme w None = None
by_fence scheme w (Some n) = if takes_it scheme w n then Some false else None

-- whether the hart is back by the move; None where that says nothing
abbrev pub decision : Scheme → List Numbered → Warning → Move → Option Bool
decision scheme fences w (Writes hart asid) =
    if (hart == w.hart) && is_under_asid w.entry asid then Some true else None
decision scheme fences w (Fences at) = by_fence scheme w (slice_get fences at)

-- by the first that decides
abbrev pub decided : Scheme → List Numbered → Warning → List Move → Option Bool
decided scheme fences w [] = None
decided scheme fences w (m ∷ moves) =
    option_or (decision scheme fences w m) (decided scheme fences w moves)

-- by the moves behind the start of a finding, if it has one
abbrev pub comes_from : Scheme → List Numbered → List Move → Warning → Option ℕ → Bool
comes_from scheme fences moves w None = true
comes_from scheme fences moves w (Some start) =
    unwrap_or (decided scheme fences w (drop start moves)) false
