-- A struct can keep only that some proof shows ways to be those to a table. From it the proof is made again: what
-- leads, whether G stands above, and whether a way is among these can each be computed.
use Rattle.std.proofs.Common.{◌≡◌, ℕ, suc, ◌+◌, ◌-◌, Bool, true, false, Option, Some, List, [], ◌∷◌, IsTrue, ap, sym, ◌∙◌, subst, refl, inl, inr, arith}
use Rattle.std.specs.Prelude.{◌↔◌, ◌==◌, ◌&&◌, ◌||◌}
use Rattle.std.specs.List.{Contains, list_any}
use Rattle.std.proofs.Props.{props}
use Rattle.std.proofs.Math.Logic.{∥∥₁_elim}
use Rattle.std.proofs.Math.Bridge.{le_prop}
use Rattle.std.proofs.lemmas.Bool.{and_from, and_parts, cases_lt, eq-eqb, eqb-true}
use Rattle.std.proofs.lemmas.List.Folds.{list_any_at}
use Rattle.pte.specs.declared.scheme.Scheme.{Scheme}
use Rattle.pte.specs.Address.{top_level}
use Rattle.walk.specs.Leads.{Tables, word_at, Leads, IsGlobalAt}
use Rattle.walk.specs.Pointers.{table_after}
use Rattle.walk.proofs.Downward.{leads_by_pointers}
use Rattle.walk.proofs.Paths.{global_known, leads-above}
use Rattle.walk.proofs.Unique.{same_bool}
use Rattle.watch_tables.specs.declared.way.Way.{Way}
use Rattle.watch_tables.specs.Paths.{IsPathSince}
use Rattle.watch_tables.specs.Ways.{AreWays, HasWay, IsInLevels, IsWay, vpn_from}

-- the way has this root, this level and these VPNs above it
abbrev is-way : ℕ → ℕ → ℕ → Way → Bool
is-way root level vpn way = (way.root == root) && ((way.level == level) && (way.vpn == vpn))

module _ (root level vpn : ℕ) where
  there-is : (ways : List Way) → HasWay ways root level vpn → list_any (is-way root level vpn) ways ≡ true
  there-is ways has =
      let at = has.among in
      list_any_at (is-way root level vpn) ways at.0 has.way at.1
      (ap (is-way root level vpn) at.2
      ∙ and_from (has.way.root == root) ((has.way.level == level) && (has.way.vpn == vpn)) (eq-eqb has.way.root root has.root_is)
      (and_from (has.way.level == level) (has.way.vpn == vpn) (eq-eqb has.way.level level has.level_is) (eq-eqb has.way.vpn vpn has.vpn_is)))

  found-first : (way : Way) (ways : List Way) (test : Bool) → is-way root level vpn way ≡ test → test || list_any (is-way root level vpn) ways ≡ true
      → (list_any (is-way root level vpn) ways ≡ true → HasWay ways root level vpn) → HasWay (way ∷ ways) root level vpn
  found-first way ways true is any more =
      let parts = and_parts (way.root == root) ((way.level == level) && (way.vpn == vpn)) is in
      let rest = and_parts (way.level == level) (way.vpn == vpn) parts.1 in
      record {
        way = way;
        among = (0, omega arith, refl);
        root_is = eqb-true way.root root parts.0;
        level_is = eqb-true way.level level rest.0;
        vpn_is = eqb-true way.vpn vpn rest.1;
      }
  found-first way ways false is any more =
      let has = more any in
      let at = has.among in
      record {
        way = has.way;
        among = (suc at.0, let less = at.1 in omega arith, at.2);
        root_is = has.root_is;
        level_is = has.level_is;
        vpn_is = has.vpn_is;
      }

  found : (ways : List Way) → list_any (is-way root level vpn) ways ≡ true → HasWay ways root level vpn
  found [] any = absurd (cc)
  found (way ∷ ways) any = found-first way ways (is-way root level vpn way) refl any (found ways)

path-since-prop : (scheme : Scheme) (words : Tables) (since : ℕ → ℕ → ℕ) (root va level count : ℕ) → IsProp (IsPathSince scheme words since root va level count)
path-since-prop scheme words since root va level count = λ p q. λ i. record { unchanged = λ at t from path. le_prop (p.unchanged at t from path) (q.unchanged at t from path) i }

-- whether G stands above a table is known
global-above : (scheme : Scheme) (words : Tables) (root va level table : ℕ) (w : Option ℕ) → Leads scheme words root va level table w → (b : Bool) × (IsTrue b ↔ IsGlobalAt scheme words root va (level + 1))
global-above scheme words root va level table w path =
    elim (cases_lt level (top_level scheme)) [
      | inl low ↦
          global_known scheme words root va (level + 1) (path.tables (level + 1)) (word_at words va (level + 1) (path.tables (level + 1))) (leads-above scheme words root va level (level + 1) table w (omega arith) (omega arith) path)
      | inr top ↦ (false, ((λ h. cc), (λ g. absurd (omega (arith, g.from, g.leads.level)))))
    ]

module _ (scheme : Scheme) (words : Tables) (since : ℕ → ℕ → ℕ) (table : ℕ) (ways : List Way) (some : ∥ AreWays scheme words since table ways ∥₁) where
  module _ (way : Way) (among : Contains ways way) where
    sure-levels : IsInLevels scheme way
    sure-levels = record {
      level = ∥∥₁_elim some le_prop (λ are. let is = (are.sound way among).0 in is.levels.level);
      vpn = ∥∥₁_elim some le_prop (λ are. let is = (are.sound way among).0 in is.levels.vpn);
    }

    sure-leads : (va : ℕ) → vpn_from scheme (way.level + 1) va ≡ way.vpn → Leads scheme words way.root va way.level way.at.table (word_at words va way.level way.at.table)
    sure-leads va vpn =
        let after : table_after scheme words way.root va (top_level scheme - way.level) ≡ Some way.at.table =
        ∥∥₁_elim some (Prim.hlevel props) (λ are. let is = (are.sound way among).0 in ((leads_by_pointers scheme words way.root va way.level way.at.table (word_at words va way.level way.at.table)).0 (is.reached va vpn).leads).1) in
        (leads_by_pointers scheme words way.root va way.level way.at.table (word_at words va way.level way.at.table)).1 (sure-levels.level, after, refl)

    sure-way : IsWay scheme words since way
    sure-way = record {
      levels = sure-levels;
      reached = λ va vpn.
          let path = sure-leads va vpn in
          let known = global-above scheme words way.root va way.level way.at.table _ path in
          let same : way.at.global ≡ known.0 = ∥∥₁_elim some (Prim.hlevel props) (λ are. let is = (are.sound way among).0 in let global = (is.reached va vpn).global in same_bool way.at.global known.0 ((λ h. known.1.1 (global.0 h)), (λ h. global.1 (known.1.0 h)))) in
          record {
            leads = path;
            global = subst (λ g. IsTrue g ↔ IsGlobalAt scheme words way.root va (way.level + 1)) (sym same) known.1;
          };
      since_is = λ va count vpn. (
        (λ le. ∥∥₁_elim some (path-since-prop scheme words since way.root va (way.level + 1) count) (λ are. let is = (are.sound way among).0 in (is.since_is va count vpn).0 le)),
        (λ all. ∥∥₁_elim some le_prop (λ are. let is = (are.sound way among).0 in (is.since_is va count vpn).1 all)),
      );
    }

  pub sure : AreWays scheme words since table ways
  sure = record {
    sound = λ way among. (sure-way way among, ∥∥₁_elim some (Prim.hlevel props) (λ are. (are.sound way among).1));
    each = λ root va level path. found root level (vpn_from scheme (level + 1) va) ways (∥∥₁_elim some (Prim.hlevel props) (λ are. there-is root level (vpn_from scheme (level + 1) va) ways (are.each root va level path)));
  }
