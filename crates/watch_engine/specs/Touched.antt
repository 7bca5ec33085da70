-- Which translations a store to a word can concern: those whose page lies below the word on a way to
-- its table, from the translation's root or, where it is global, from any of these roots.
use Rattle.std.specs.Prelude.{ℕ, Bool, not, ◌+◌, ◌*◌, ◌==◌, ◌&&◌, ◌||◌, nat_le, if◌then◌else◌, List, Option, None, Some, filter, map}
use Rattle.std.specs.List.{list_any}
use Rattle.pte.specs.declared.scheme.Scheme.{Scheme}
use Rattle.pte.specs.declared.address.TheConstants.{TABLE_LENGTH}
use Rattle.pte.specs.Address.{Span, level_of, top_level, vpn_of}
use Rattle.watch.specs.Holding.{Translation}
use Rattle.watch_tables.specs.Ways.{vpn_from}
use Rattle.watch_engine.specs.declared.held.Held.{Held}
use Rattle.watch_tables.specs.declared.way.Way.{Way}
use Rattle.watch_engine.specs.Held.{settled_unless_stale, translation_of, with_state}
use Rattle.watch_engine.specs.declared.state.State.{State}
use Rattle.watch_engine.specs.declared.state.State.TheVariants.{Gone}
use Rattle.watch_engine.specs.State.{recheck_of, rechecked}
use Rattle.watch_engine.specs.View.{View, is_current_in, is_live_for}

abbrev pub is_below : Scheme → ℕ → Span → Way → Bool
is_below scheme index page way =
    nat_le way.level (top_level scheme)
    && (nat_le (level_of page.size) way.level
    && (vpn_from scheme way.level page.base == way.vpn * TABLE_LENGTH + index))

-- on the path of the page, the word at this index is asked for in a table of some level
abbrev pub asks : Span → ℕ → Bool
asks page index =
    (vpn_of page.base 0 == index)
    || ((vpn_of page.base 1 == index)
    || ((vpn_of page.base 2 == index) || (vpn_of page.base 3 == index)))

abbrev pub is_touched_on : Scheme → List ℕ → ℕ → Translation → Way → Bool
is_touched_on scheme roots index x way =
    is_below scheme index x.entry.page way
    && ((way.root == x.root) || (x.entry.global && list_any (λ r. r == way.root) roots))

abbrev pub is_touched : Scheme → List ℕ → ℕ → List Way → Translation → Bool
is_touched scheme roots index ways x = list_any (is_touched_on scheme roots index x) ways

-- it can be filled again
abbrev pub is_filled_again : View → ℕ → List Way → Held → Bool
is_filled_again v index ways i =
    is_touched v.scheme v.roots index ways (translation_of i) && is_live_for v i.hart (translation_of i)

abbrev pub is_kept_after : View → ℕ → List Way → Held → Bool
is_kept_after v index ways i = not (is_filled_again v index ways i)

abbrev pub settled_if : Bool → Bool → ℕ → Held → Held
settled_if touched current now i =
    with_state (if touched then rechecked current now i.state else i.state) i

-- with what the tables have of it then, if the store concerns it
abbrev pub settled : View → ℕ → List Way → Held → Held
settled v index ways i =
    settled_if (is_touched v.scheme v.roots index ways (translation_of i)) (is_current_in v (translation_of i)) v.count i

-- all of them, without those that can be filled again
abbrev pub all_settled : View → ℕ → List Way → List Held → List Held
all_settled v index ways held = map (settled v index ways) (filter (is_kept_after v index ways) held)

-- the state to which a store changes it, if it does, by what the tables have then
abbrev pub store_change : View → ℕ → List Way → Held → Option State
store_change v index ways i =
    if is_touched v.scheme v.roots index ways (translation_of i)
    then (if is_live_for v i.hart (translation_of i) then Some Gone
    else recheck_of (is_current_in v (translation_of i)) v.count i.state)
    else None

-- what is not stale is rechecked, after a record that can only take from what the tables have
abbrev pub settled_taken : View → List Held → List Held
settled_taken v held =
    map (λ i. settled_unless_stale (is_current_in v (translation_of i)) v.count i) held
