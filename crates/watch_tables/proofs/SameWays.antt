-- The ways to tables go by pointers.
use Rattle.std.proofs.Common.{◌≡◌, ℕ, ◌+◌, ◌-◌, ◌≤◌, Option, Some, List, sym, subst, arith}
use Rattle.pte.specs.declared.scheme.Scheme.{Scheme}
use Rattle.pte.specs.Address.{vpn_of}
use Rattle.walk.specs.Leads.{Tables, word_at, Leads, IsGlobalAt, PointsTo}
use Rattle.walk.specs.Stores.{AgreeBut, stored}
use Rattle.walk.specs.Maps.{page_number}
use Rattle.walk.proofs.Paths.{leads-above, same_table}
use Rattle.walk.proofs.Stored.{Agree, global-carried, leads-carried, stored-here, stored_agrees}
use Rattle.watch.specs.Trace.{index_of}
use Rattle.watch_tables.specs.declared.way.Way.{Way}
use Rattle.watch_tables.specs.Paths.{IsPathSince}
use Rattle.watch_tables.specs.Steady.{KeepsWays}
use Rattle.watch_tables.specs.Ways.{AreWays, IsWay}

-- each pointer of the one memory is that in the other too, since the same record
pub record KeepsPointers (words others : Tables) (old new : ℕ → ℕ → ℕ) : Type 0 where
  pub word : (t i next : ℕ) → PointsTo (words t i) next → others t i ≡ words t i
  pub since : (t i next : ℕ) → PointsTo (words t i) next → new t i ≡ old t i

module _ (scheme : Scheme) (words others : Tables) (old new : ℕ → ℕ → ℕ) (keeps : KeepsPointers words others old new) (root va level table : ℕ) (w : Option ℕ) (path : Leads scheme words root va level table w) where
  agree : Agree scheme words others root va path.tables (level + 1)
  agree = λ j above below. keeps.word (path.tables j) (vpn_of va j) (path.tables (j - 1)) (path.pointers j (omega arith) below)

  leads-still : Leads scheme others root va level table (word_at others va level table)
  leads-still = subst (λ t. Leads scheme others root va level t (word_at others va level t)) path.last (leads-carried scheme words others root va level level table w (omega arith) path.level path agree)

  global-still : IsGlobalAt scheme words root va (level + 1) → IsGlobalAt scheme others root va (level + 1)
  global-still = global-carried scheme words others root va level (level + 1) table w (omega arith) path agree

  since-still : (count : ℕ) → IsPathSince scheme words old root va (level + 1) count → IsPathSince scheme others new root va (level + 1) count
  since-still count all = record {
    unchanged = λ at t from there.
        let top = there.level in
        let above = leads-above scheme words root va level at table w (omega arith) top path in
        let moved = leads-carried scheme words others root va level at table w (omega arith) top path (λ j more below. agree j (omega arith) below) in
        let same : path.tables at ≡ t = same_table scheme others root va at (path.tables at) t (word_at others va at (path.tables at)) (word_at others va at t) moved there in
        let stays : new (path.tables at) (vpn_of va at) ≡ old (path.tables at) (vpn_of va at) = keeps.since (path.tables at) (vpn_of va at) (path.tables (at - 1)) (path.pointers at (omega arith) top) in
        subst (λ u. new u (vpn_of va at) ≤ count) same (subst (λ n. n ≤ count) (sym stays) (all.unchanged at (path.tables at) from above));
  }

module _ (scheme : Scheme) (words others : Tables) (old new : ℕ → ℕ → ℕ) (keeps : KeepsPointers words others old new) (back : KeepsPointers others words new old) where
  way-still : (way : Way) → IsWay scheme words old way → IsWay scheme others new way
  way-still way is = record {
    levels = is.levels;
    reached = λ va vpn.
        let at = is.reached va vpn in
        let there = leads-still scheme words others old new keeps way.root va way.level way.at.table _ at.leads in
        record {
          leads = there;
          global = (
            (λ h. global-still scheme words others old new keeps way.root va way.level way.at.table _ at.leads (at.global.0 h)),
            (λ g. at.global.1 (global-still scheme others words new old back way.root va way.level way.at.table _ there g)),
          );
        };
    since_is = λ va count vpn.
        let path = (is.reached va vpn).leads in
        let there = leads-still scheme words others old new keeps way.root va way.level way.at.table _ path in
        let known = is.since_is va count vpn in (
          (λ le. since-still scheme words others old new keeps way.root va way.level way.at.table _ path count (known.0 le)),
          (λ all. known.1 (since-still scheme others words new old back way.root va way.level way.at.table _ there count all)),
        );
  }

  -- where both memories have the same pointers, the ways to a table are the same
  pub ways-still : (table : ℕ) (ways : List Way) → AreWays scheme words old table ways → AreWays scheme others new table ways
  ways-still table ways are = record {
    sound = λ way among. let is = are.sound way among in (way-still way is.0, is.1);
    each = λ root va level path. are.each root va level (leads-still scheme others words new old back root va level table _ path);
  }

-- a word that is no pointer is stored over another
module _ (words : Tables) (old new : ℕ → ℕ → ℕ) (table index word : ℕ) (since : (t i : ℕ) → ((t ≡ table) × (i ≡ index) → ⊥) → new t i ≡ old t i)
    (none : (next : ℕ) → PointsTo (words table index) next → ⊥) (new_none : (next : ℕ) → PointsTo (Some word) next → ⊥) where
  apart : (t i next : ℕ) → PointsTo (words t i) next → (t ≡ table) × (i ≡ index) → ⊥
  apart t i next point here = none next (subst (λ n. PointsTo (words table n) next) here.1 (subst (λ u. PointsTo (words u i) next) here.0 point))

  new-apart : (t i next : ℕ) → PointsTo (stored words table index word t i) next → (t ≡ table) × (i ≡ index) → ⊥
  new-apart t i next point here =
      let there = subst (λ n. PointsTo (stored words table index word table n) next) here.1 (subst (λ u. PointsTo (stored words table index word u i) next) here.0 point) in
      new_none next (subst (λ o. PointsTo o next) (stored-here words table index word) there)

  but : AgreeBut words (stored words table index word) table index
  but = stored_agrees words table index word

  pub store-keeps : KeepsPointers words (stored words table index word) old new
  store-keeps = record {
    word = λ t i next point. but.elsewhere t i (apart t i next point);
    since = λ t i next point. since t i (apart t i next point);
  }

  pub store-keeps-back : KeepsPointers (stored words table index word) words new old
  store-keeps-back = record {
    word = λ t i next point. sym (but.elsewhere t i (new-apart t i next point));
    since = λ t i next point. sym (since t i (new-apart t i next point));
  }

pub keeps-ways : (words : Tables) (old : ℕ → ℕ → ℕ) (address word : ℕ) → ((next : ℕ) → PointsTo (words (page_number address) (index_of address)) next → ⊥) → ((next : ℕ) → PointsTo (Some word) next → ⊥) → KeepsWays words old address word
keeps-ways words old address word none new_none = λ scheme new hart table ways since are.
    ways-still scheme words (stored words (page_number address) (index_of address) word) old new
    (store-keeps words old new (page_number address) (index_of address) word since none new_none)
    (store-keeps-back words old new (page_number address) (index_of address) word since none new_none) table ways are
