-- What leads goes by the words on its path.
use Rattle.std.proofs.Common.{◌≡◌, ℕ, zero, suc, ◌+◌, ◌-◌, ◌<◌, ◌≤◌, ◌⊎◌, Bool, true, false, Option, Some, None, ap, sym, ◌∙◌, subst, refl, inl, inr, arith}
use Rattle.std.specs.Prelude.{◌↔◌}
use Rattle.std.proofs.lemmas.Bool.{cases_lt}
use Rattle.pte.specs.declared.scheme.Scheme.{Scheme}
use Rattle.pte.specs.declared.flags.PteFlags.{PteFlags}
use Rattle.pte.specs.declared.entry.Kind.TheVariants as kinds
use Rattle.pte.specs.Address.{Span, level_of, top_level, vpn_of}
use Rattle.pte.specs.Entry.{kind_of}
use Rattle.walk.specs.Leads.{Tables, word_at, Leads, IsGlobalAt, PointsTo}
use Rattle.walk.specs.Pointers.{table_after}
use Rattle.walk.proofs.Paths.{leads-start, leads-above, leads_down, same_table, same_word, through}
use Rattle.walk.proofs.Stored.{leads-same}
use Rattle.walk.proofs.Downward.{leads_by_pointers}
use Rattle.tlb.specs.declared.store.Entry.{Entry}
use Rattle.watch.specs.Holding.{HasLeaf, Translation}
use Rattle.watch.specs.Staleness.{IsMapped}
use Rattle.watch_tables.specs.Through.{PassesFirst, PassesNone}
use Rattle.watch_tables.proofs.Storing.{zero-invalid, zero-points-nowhere}

-- 0 is no leaf
zero-no-leaf : (ppn : ℕ) (flags : PteFlags) → kind_of 0 ≡ kinds.Leaf ppn flags → ⊥
zero-no-leaf ppn flags kind =
    let kinds : kinds.Invalid ≡ kinds.Leaf ppn flags = sym zero-invalid ∙ kind in
    cc

-- the word of each table that leads at a level or above
abbrev pub OnPath : Scheme → Tables → ℕ → ℕ → ℕ → (ℕ → ℕ → Type 0) → Type 0
OnPath scheme words root va level Holds = (at table : ℕ) → level ≤ at → Leads scheme words root va at table (word_at words va at table) → Holds table (vpn_of va at)

module _ (scheme : Scheme) (words others : Tables) (root va level : ℕ) (same : OnPath scheme words root va level (λ t i. others t i ≡ words t i)) where
  leads-there : (at table : ℕ) (w : Option ℕ) → level ≤ at → Leads scheme words root va at table w → Leads scheme others root va at table w
  leads-there at table w le path = leads-same scheme words others root va at table w path (λ j from below. same j (path.tables j) (omega arith) (leads-above scheme words root va at j table w from below path))

  -- from the top down the tables of a path in the other memory lead in the one
  leads-down-to : (d j at table : ℕ) (w : Option ℕ) → j + d ≡ top_level scheme → level ≤ at → at ≤ j → (path : Leads scheme others root va at table w) → Leads scheme words root va j (path.tables j) (word_at words va j (path.tables j))
  leads-down-to zero j at table w top le from path =
      let highest : top_level scheme ≡ j = omega arith in
      subst (λ k. Leads scheme words root va k (path.tables k) (word_at words va k (path.tables k))) highest
      (subst (λ t. Leads scheme words root va (top_level scheme) t (word_at words va (top_level scheme) t)) (sym path.first) (leads-start scheme words root va))
  leads-down-to (suc d) j at table w top le from path =
      let above : Leads scheme words root va (j + 1) (path.tables (j + 1)) (word_at words va (j + 1) (path.tables (j + 1))) = leads-down-to d (j + 1) at table w (omega arith) le (omega arith) path in
      let point : PointsTo (word_at others va (j + 1) (path.tables (j + 1))) (path.tables (j + 1 - 1)) = path.pointers (j + 1) (omega arith) (omega arith) in
      let here : PointsTo (word_at words va (j + 1) (path.tables (j + 1))) (path.tables (j + 1 - 1)) =
      subst (λ o. PointsTo o (path.tables (j + 1 - 1))) (same (j + 1) (path.tables (j + 1)) (omega arith) above) point
      in
      let back : j + 1 - 1 ≡ j = omega arith in
      leads_down scheme words root va j (path.tables (j + 1)) (path.tables j) (word_at words va (j + 1) (path.tables (j + 1))) above (subst (λ k. PointsTo (word_at words va (j + 1) (path.tables (j + 1))) (path.tables k)) back here)

  leads-here : (at table : ℕ) (w : Option ℕ) → level ≤ at → Leads scheme others root va at table w → Leads scheme words root va at table w
  leads-here at table w le path =
      let down = leads-down-to (top_level scheme - at) at at table w (omega (arith, path.level)) le (omega arith) path in
      let there : Leads scheme words root va at table (word_at words va at table) = subst (λ t. Leads scheme words root va at t (word_at words va at t)) path.last down in
      subst (Leads scheme words root va at table) (sym (same at table le there) ∙ sym path.here) there

  pub leads-alike : (at table : ℕ) (w : Option ℕ) → level ≤ at → Leads scheme words root va at table w ↔ Leads scheme others root va at table w
  leads-alike at table w le = (leads-there at table w le, leads-here at table w le)

  pub global-alike : IsGlobalAt scheme words root va level ↔ IsGlobalAt scheme others root va level
  global-alike = (
    (λ g. record { level = g.level; table = g.table; entry = g.entry; from = g.from; leads = leads-there g.level g.table (Some g.entry) g.from g.leads; global = g.global }),
    (λ g. record { level = g.level; table = g.table; entry = g.entry; from = g.from; leads = leads-here g.level g.table (Some g.entry) g.from g.leads; global = g.global }),
  )

  pub same-turned : OnPath scheme others root va level (λ t i. words t i ≡ others t i)
  same-turned at table le path =
      sym (same at table le (subst (Leads scheme words root va at table) (
      let there = leads-here at table (word_at others va at table) le path in there.here) (leads-here at table (word_at others va at table) le path)))

-- where a leaf's path has the same words, the leaf is there too
leaf-there : (scheme : Scheme) (words others : Tables) (root : ℕ) (e : Entry) → OnPath scheme words root e.page.base (level_of e.page.size) (λ t i. others t i ≡ words t i) → HasLeaf scheme words root e → HasLeaf scheme others root e
leaf-there scheme words others root e same leaf =
    let alike = global-alike scheme words others root e.page.base (level_of e.page.size) same in
    record {
      table = leaf.table;
      word = leaf.word;
      page = leaf.page;
      leads = (leads-alike scheme words others root e.page.base (level_of e.page.size) same (level_of e.page.size) leaf.table (Some leaf.word) (omega arith)).0 leaf.leads;
      kind = leaf.kind;
      aligned = leaf.aligned;
      global = ((λ h. alike.0 (leaf.global.0 h)), (λ g. leaf.global.1 (alike.1 g)));
    }

-- no word on a leaf's path is 0
pub leaf-filled : (scheme : Scheme) (words : Tables) (root : ℕ) (e : Entry) (at table : ℕ) → HasLeaf scheme words root e → level_of e.page.size ≤ at
    → Leads scheme words root e.page.base at table (word_at words e.page.base at table) → words table (vpn_of e.page.base at) ≡ Some 0 → ⊥
leaf-filled scheme words root e at table leaf le path is =
    elim (cases_lt (level_of e.page.size) at) [
      | inl above ↦
          let next = through scheme words root e.page.base at (level_of e.page.size) table leaf.table (word_at words e.page.base at table) (Some leaf.word) above path leaf.leads in
          zero-points-nowhere next.0 (subst (λ o. PointsTo o next.0) is next.1)
      | inr not_above ↦
          let level : at ≡ level_of e.page.size = omega arith in
          let here : Leads scheme words root e.page.base (level_of e.page.size) table (Some 0) = subst (λ k. Leads scheme words root e.page.base k table (Some 0)) level (subst (Leads scheme words root e.page.base at table) is path) in
          let words_same : Some 0 ≡ Some leaf.word = same_word scheme words root e.page.base (level_of e.page.size) table leaf.table (Some 0) (Some leaf.word) here leaf.leads in
          let same : 0 ≡ leaf.word = cc in
          zero-no-leaf e.ppn e.flags (ap kind_of same ∙ leaf.kind)
    ]

pub leaf-goes-by-words : (scheme : Scheme) (words others : Tables) (root : ℕ) (e : Entry) → HasLeaf scheme words root e
    → OnPath scheme words root e.page.base (level_of e.page.size) (λ t i. (words t i ≡ Some 0 → ⊥) → others t i ≡ words t i) → HasLeaf scheme others root e
leaf-goes-by-words scheme words others root e leaf same =
    leaf-there scheme words others root e (λ at table le path. same at table le path (leaf-filled scheme words root e at table leaf le path)) leaf

-- the first word of a set on a path, from the top down
module _ (scheme : Scheme) (words : Tables) (is_in : ℕ → ℕ → Bool) (root : ℕ) (page : Span) where
  abbrev pub Clear : ℕ → Type 0
  Clear k = (at table : ℕ) → k ≤ at → Leads scheme words root page.base at table (word_at words page.base at table) → is_in table (vpn_of page.base at) ≡ false

  one-more : (k : ℕ) → Clear (k + 1) → ((table : ℕ) → Leads scheme words root page.base k table (word_at words page.base k table) → is_in table (vpn_of page.base k) ≡ false) → Clear k
  one-more k above here at table le path =
      elim (cases_lt k at) [
        | inl more ↦ above at table (omega arith) path
        | inr less ↦
            let same : k ≡ at = omega arith in
            subst (λ j. is_in table (vpn_of page.base j) ≡ false) same (here table (subst (λ j. Leads scheme words root page.base j table (word_at words page.base j table)) (sym same) path))
      ]

  at-table : (k t : ℕ) (test : Bool) → is_in t (vpn_of page.base k) ≡ test → level_of page.size ≤ k → Leads scheme words root page.base k t (word_at words page.base k t) → Clear (k + 1) → Clear k ⊎ PassesFirst scheme words is_in root page
  at-table k t true is le path above = inr (record {
    table = t;
    index = vpn_of page.base k;
    passes = record { at = k; from = le; asked = refl; leads = path };
    of_set = is;
    above = λ at other more lead. above at other (omega arith) lead;
  })
  at-table k t false is le path above = inl (one-more k above (λ table lead.
      let same : t ≡ table = same_table scheme words root page.base k t table (word_at words page.base k t) (word_at words page.base k table) path lead in
      subst (λ u. is_in u (vpn_of page.base k) ≡ false) same is))

  at-level : (k : ℕ) (o : Option ℕ) → table_after scheme words root page.base (top_level scheme - k) ≡ o → k ≤ top_level scheme → level_of page.size ≤ k → Clear (k + 1) → Clear k ⊎ PassesFirst scheme words is_in root page
  at-level k None is top le above = inl (one-more k above (λ table path.
      let known = (leads_by_pointers scheme words root page.base k table (word_at words page.base k table)).0 path in
      let never : None ≡ Some table = sym is ∙ known.1 in
      absurd (cc)))
  at-level k (Some t) is top le above = at-table k t (is_in t (vpn_of page.base k)) refl le ((leads_by_pointers scheme words root page.base k t (word_at words page.base k t)).1 (top, is, refl)) above

  above-top : (k : ℕ) → top_level scheme < k → Clear k
  above-top k high at table le path = absurd (omega (arith, path.level))

  down-to : (d k : ℕ) → k + d ≡ top_level scheme + 1 → level_of page.size ≤ k → Clear k ⊎ PassesFirst scheme words is_in root page
  down-to zero k top le = inl (above-top k (omega arith))
  down-to (suc d) k top le =
      elim (down-to d (k + 1) (omega arith) (omega arith)) [
        | inl above ↦ at-level k (table_after scheme words root page.base (top_level scheme - k)) refl (omega arith) le above
        | inr first ↦ inr first
      ]

  pub first-or-none : PassesNone scheme words is_in root page ⊎ PassesFirst scheme words is_in root page
  first-or-none =
      elim (cases_lt (top_level scheme) (level_of page.size)) [
        | inl high ↦ inl (record { none = above-top (level_of page.size) high })
        | inr low ↦
            elim (down-to (top_level scheme + 1 - level_of page.size) (level_of page.size) (omega arith) (omega arith)) [
              | inl clear ↦ inl (record { none = clear })
              | inr first ↦ inr first
            ]
      ]

-- a leaf changes only where its path passes through what changes
module _ (scheme : Scheme) (words others : Tables) (is_in : ℕ → ℕ → Bool) (agree : (t i : ℕ) → is_in t i ≡ false → others t i ≡ words t i) where
  module _ (root : ℕ) (e : Entry) where
    pub leaf-unchanged : PassesNone scheme words is_in root e.page → HasLeaf scheme words root e ↔ HasLeaf scheme others root e
    leaf-unchanged clear =
        let same : OnPath scheme words root e.page.base (level_of e.page.size) (λ t i. others t i ≡ words t i) = λ at table le path. agree table (vpn_of e.page.base at) (clear.none at table le path) in
        (leaf-there scheme words others root e same, leaf-there scheme others words root e (same-turned scheme words others root e.page.base (level_of e.page.size) same))

    pub leaf-changes : (HasLeaf scheme words root e ↔ HasLeaf scheme others root e) ⊎ PassesFirst scheme words is_in root e.page
    leaf-changes =
        elim (first-or-none scheme words is_in root e.page) [
          | inl clear ↦ inl (leaf-unchanged clear)
          | inr first ↦ inr first
        ]

  pub mapped-changes : (x : Translation) → (IsMapped scheme words x ↔ IsMapped scheme others x) ⊎ PassesFirst scheme words is_in x.root x.entry.page
  mapped-changes x =
      elim (first-or-none scheme words is_in x.root x.entry.page) [
        | inl clear ↦
            inl (
              (λ m. record { flags = m.flags; permit = m.permit; leaf = (leaf-unchanged x.root (record x.entry { flags = m.flags }) clear).0 m.leaf }),
              (λ m. record { flags = m.flags; permit = m.permit; leaf = (leaf-unchanged x.root (record x.entry { flags = m.flags }) clear).1 m.leaf }),
            )
        | inr first ↦ inr first
      ]
