-- What a watch reads: the tables, since when each word is what it is, the satps, the roots of address
-- spaces, the spaces that were left, the fences since, and how many records there have been.
use Rattle.std.specs.Prelude.{ℕ, Bool, List, Option, None, get_or}
use Rattle.pte.specs.declared.scheme.Scheme.{Scheme}
use Rattle.walk.specs.Leads.{Tables}
use Rattle.walk.specs.Maps.{page_number}
use Rattle.tlb.specs.declared.store.Entry.{Entry}
use Rattle.watch.specs.declared.trace.Space.{Space}
use Rattle.watch.specs.Computed.{is_mapped}
use Rattle.watch.specs.ComputedTraces.{is_live_in}
use Rattle.watch.specs.Holding.{Translation}
use Rattle.watch.specs.Trace.{index_of}
use Rattle.watch_tables.specs.declared.way.Way.{Way}
use Rattle.watch_tables.specs.Through.{Passes}
use Rattle.watch_tables.specs.Ways.{AreWays}
use Rattle.watch_engine.specs.declared.left.Left.{Left}
use Rattle.watch_engine.specs.declared.left.PastFence.{PastFence}
use Rattle.watch_engine.specs.declared.tables.Tables.{Ghosts}
use Rattle.watch_engine.specs.declared.view.View.{View as ViewOf}
use Rattle.watch_engine.specs.Held.{is_current_by}
use Rattle.watch_engine.specs.Left.{IsLeftAt}

pub record View : Type 0 where
  pub scheme : Scheme
  pub words : Tables
  pub since : ℕ → ℕ → ℕ
  pub satps : List (Option Space)
  pub roots : List ℕ
  pub left : List Left
  pub drops : List PastFence
  pub count : ℕ

module _ {T : Type 0} {g : Ghosts T} where
  abbrev pub view_of : ViewOf T g → View
  view_of v =
      record {
        scheme = v.scheme;
        words = g.words v.tables.now;
        since = g.since v.tables.now;
        satps = v.satps.now;
        roots = v.roots.now;
        left = v.left.now;
        drops = v.drops.now.fences.items;
        count = v.count;
      }

-- the hart can fill the translation now
abbrev pub is_live_for : View → ℕ → Translation → Bool
is_live_for v hart x = is_live_in v.scheme v.words (get_or v.satps hart None) x

-- the tables of its root have it or, where it is global, those of one of the roots
abbrev pub is_current_in : View → Translation → Bool
is_current_in v x = is_current_by (is_mapped v.scheme v.words) v.roots x

-- the hart may hold it since it left a space after so many records
abbrev pub IsLeftIn : View → ℕ → Translation → ℕ → Type 0
IsLeftIn v = IsLeftAt v.scheme v.words v.since v.drops v.left

-- the path of the entry's page passes through the word at the address
abbrev pub PassesAt : View → ℕ → ℕ → Entry → Type 0
PassesAt v address root e = Passes v.scheme v.words root (page_number address) (index_of address) e.page

-- these are the ways to the table of the word at the address
abbrev pub AreWaysTo : View → ℕ → List Way → Type 0
AreWaysTo v address ways = AreWays v.scheme v.words v.since (page_number address) ways
