-- Paths of tables from a root: they begin at the root, go on below a pointer, and there is one.
use Rattle.std.proofs.Common.{◌≡◌, ℕ, zero, suc, ◌+◌, ◌-◌, ◌<◌, ◌≤◌, ◌⊎◌, Bool, false, Option, Some, None, cond, ltb, ap, sym, ◌∙◌, subst, refl, inl, inr, arith, IsTrue}
use Rattle.std.specs.Prelude.{◌||◌, ◌↔◌}
use Rattle.std.proofs.lemmas.Bool.{cases_lt, lt-ltb, le-ltb, cond-true, cond-false, or_cases, or_left, or_right}
use Rattle.pte.specs.declared.scheme.Scheme.{Scheme}
use Rattle.pte.specs.declared.entry.Kind.TheVariants.{Table}
use Rattle.pte.specs.Address.{top_level}
use Rattle.pte.specs.Entry.{kind_of, is_global}
use Rattle.walk.specs.Leads.{Tables, word_at, PointsTo, Leads, IsGlobalAt}

-- a pointer, seen at equal words and tables
points-like : (w v : Option ℕ) (t u : ℕ) → v ≡ w → u ≡ t → PointsTo w t → PointsTo v u
points-like w v t u e f p = record { entry = p.entry; global = p.global; is = e ∙ p.is; kind = p.kind ∙ ap (λ n. Table n p.global) (sym f) }

-- a word points to one table
one_table : (w v : Option ℕ) (t u : ℕ) → w ≡ v → (p : PointsTo w t) → (q : PointsTo v u) → t ≡ u
one_table w v t u e p q =
    let entries : p.entry ≡ q.entry = let some : Some p.entry ≡ Some q.entry = sym p.is ∙ e ∙ q.is in cc in
    let kinds : Table t p.global ≡ Table u q.global = sym p.kind ∙ ap kind_of entries ∙ q.kind in
    cc

module _ (scheme : Scheme) (words : Tables) (root va : ℕ) where
  pub leads-start : Leads scheme words root va (top_level scheme) root (word_at words va (top_level scheme) root)
  leads-start = record {
    tables = λ _. root;
    level = omega arith;
    first = refl;
    last = refl;
    pointers = λ j above below. absurd (omega arith);
    here = refl;
  }

  -- one level down, at the table that the word points to
  pub leads-below : (i table entry next : ℕ) (global : Bool) → Leads scheme words root va (i + 1) table (Some entry) → kind_of entry ≡ Table next global → Leads scheme words root va i next (word_at words va i next)
  leads-below i table entry next global path kind =
      let tables : ℕ → ℕ = λ k. cond (ltb i k) (path.tables k) next in
      let old : (k : ℕ) → i < k → tables k ≡ path.tables k = λ k h. cond-true (ltb i k) _ _ (lt-ltb i k h) in
      let new : tables i ≡ next = cond-false (ltb i i) _ _ (le-ltb i i (omega arith)) in
      record {
        tables = tables;
        level = omega (arith, path.level);
        first = old (top_level scheme) (omega (arith, path.level)) ∙ path.first;
        last = new;
        pointers = λ j above below.
            elim (cases_lt (i + 1) j) [
              | inl more ↦
                  points-like _ _ _ _ (ap (word_at words va j) (old j above)) (old (j - 1) (omega arith)) (path.pointers j more below)
              | inr less ↦
                  let at : j ≡ i + 1 = omega arith in
                  record {
                    entry = entry;
                    global = global;
                    is = ap (word_at words va j) (old j above ∙ ap path.tables at ∙ path.last) ∙ ap (λ k. word_at words va k table) at ∙ sym path.here;
                    kind = kind ∙ ap (λ n. Table n global) (sym new ∙ ap tables (let e : i ≡ j - 1 = omega arith in e));
                  }
            ];
        here = refl;
      }

  -- the path down to a level passes a word at each level above
  abbrev pub leads-above : (i k t : ℕ) (w : Option ℕ) → i ≤ k → k ≤ top_level scheme → (path : Leads scheme words root va i t w) → Leads scheme words root va k (path.tables k) (word_at words va k (path.tables k))
  leads-above i k t w from level path = record {
    tables = path.tables;
    level = level;
    first = path.first;
    last = refl;
    pointers = λ j above below. path.pointers j (omega arith) below;
    here = refl;
  }

  -- two paths have one table at each level that both reach
  pub same_tables : (d k i j t u : ℕ) (v w : Option ℕ) → k + d ≡ top_level scheme → i ≤ k → j ≤ k → (p : Leads scheme words root va i t v) → (q : Leads scheme words root va j u w) → p.tables k ≡ q.tables k
  same_tables zero k i j t u v w at from also p q =
      let top : k ≡ top_level scheme = omega arith in
      ap p.tables top ∙ p.first ∙ sym q.first ∙ ap q.tables (sym top)
  same_tables (suc d) k i j t u v w at from also p q =
      let above : p.tables (k + 1) ≡ q.tables (k + 1) = same_tables d (k + 1) i j t u v w (omega arith) (omega arith) (omega arith) p q in
      let back : k + 1 - 1 ≡ k = omega arith in
      ap p.tables (sym back)
      ∙ one_table _ _ _ _ (ap (word_at words va (k + 1)) above) (p.pointers (k + 1) (omega arith) (omega arith)) (q.pointers (k + 1) (omega arith) (omega arith))
      ∙ ap q.tables back

  -- so one table and one word lead at a level
  pub same_table : (i t u : ℕ) (v w : Option ℕ) → Leads scheme words root va i t v → Leads scheme words root va i u w → t ≡ u
  same_table i t u v w p q =
      sym p.last ∙ same_tables (top_level scheme - i) i i i t u v w (omega (arith, p.level)) (omega arith) (omega arith) p q ∙ q.last

  pub same_word : (i t u : ℕ) (v w : Option ℕ) → Leads scheme words root va i t v → Leads scheme words root va i u w → v ≡ w
  same_word i t u v w p q = p.here ∙ ap (word_at words va i) (same_table i t u v w p q) ∙ sym q.here

  -- what leads below a level goes through a pointer there
  pub through : (i j t u : ℕ) (v w : Option ℕ) → j < i → Leads scheme words root va i t v → Leads scheme words root va j u w → (next : ℕ) × PointsTo v next
  through i j t u v w below p q =
      let tables : q.tables i ≡ p.tables i = same_tables (top_level scheme - i) i j i u t w v (omega (arith, p.level)) (omega arith) (omega arith) q p in
      (q.tables (i - 1), points-like _ _ _ _ (p.here ∙ ap (word_at words va i) (sym p.last ∙ sym tables)) refl (q.pointers i below p.level))

  -- nothing stands above the root
  pub none_above : IsGlobalAt scheme words root va (top_level scheme + 1) → ⊥
  none_above g = omega (arith, g.from, g.leads.level)

  -- G above a level is G at it
  pub global-above : (i : ℕ) → IsGlobalAt scheme words root va (i + 1) → IsGlobalAt scheme words root va i
  global-above i g = record { level = g.level; table = g.table; entry = g.entry; from = omega (arith, g.from); leads = g.leads; global = g.global }

  -- G at a level is G above, or G on the word that leads there
  pub global-cases : (i t : ℕ) (v : Option ℕ) → Leads scheme words root va i t v → (g : IsGlobalAt scheme words root va i) → IsGlobalAt scheme words root va (i + 1) ⊎ (v ≡ Some g.entry)
  global-cases i t v path g =
      elim (cases_lt i g.level) [
        | inl more ↦ inl (record { level = g.level; table = g.table; entry = g.entry; from = omega arith; leads = g.leads; global = g.global })
        | inr less ↦
            let at : g.level ≡ i = omega (arith, g.from) in
            inr (same_word i t g.table v (Some g.entry) path (subst (λ k. Leads scheme words root va k g.table (Some g.entry)) at g.leads))
      ]

  pub global-here : (i t entry : ℕ) (above : Bool) → Leads scheme words root va i t (Some entry) → (IsTrue above ↔ IsGlobalAt scheme words root va (i + 1)) → IsTrue (above || is_global entry) ↔ IsGlobalAt scheme words root va i
  global-here i t entry above path known = (
    (λ h. elim (or_cases above (is_global entry) h) [
      | inl up ↦ global-above i (known.0 up)
      | inr on ↦ record { level = i; table = t; entry = entry; from = omega arith; leads = path; global = on }
    ]),
    (λ g. elim (global-cases i t (Some entry) path g) [
      | inl up ↦ or_left above (is_global entry) (known.1 up)
      | inr on ↦ let same : entry ≡ g.entry = cc in or_right above (is_global entry) (ap is_global same ∙ g.global)
    ]),
  )

  pub global-none : (i t : ℕ) (above : Bool) → Leads scheme words root va i t None → (IsTrue above ↔ IsGlobalAt scheme words root va (i + 1)) → IsTrue above ↔ IsGlobalAt scheme words root va i
  global-none i t above path known = (
    (λ h. global-above i (known.0 h)),
    (λ g. elim (global-cases i t None path g) [
      | inl up ↦ known.1 up
      | inr on ↦ cc
    ]),
  )

  -- whether G stands on a path, at level k or above, is known
  known-step : (t : ℕ) (w : Option ℕ) (k : ℕ) (above : Bool) → Leads scheme words root va k t w → (IsTrue above ↔ IsGlobalAt scheme words root va (k + 1)) → (global : Bool) × (IsTrue global ↔ IsGlobalAt scheme words root va k)
  known-step t None k above path known = (above, global-none k t above path known)
  known-step t (Some entry) k above path known = (above || is_global entry, global-here k t entry above path known)

  known-from : (d i k t : ℕ) (w : Option ℕ) → k + d ≡ top_level scheme + 1 → i ≤ k → Leads scheme words root va i t w → (global : Bool) × (IsTrue global ↔ IsGlobalAt scheme words root va k)
  known-from zero i k t w at from path =
      let top : (top_level scheme) + 1 ≡ k = omega arith in
      (false, ((λ h. cc), (λ g. absurd (none_above (subst (IsGlobalAt scheme words root va) (sym top) g)))))
  known-from (suc d) i k t w at from path =
      let above = known-from d i (k + 1) t w (omega arith) (omega arith) path in
      known-step (path.tables k) _ k above.0 (leads-above i k t w from (omega arith) path) above.1

  pub global_known : (i t : ℕ) (w : Option ℕ) → Leads scheme words root va i t w → (global : Bool) × (IsTrue global ↔ IsGlobalAt scheme words root va i)
  global_known i t w path = known-from (top_level scheme + 1 - i) i i t w (omega (arith, path.level)) (omega arith) path

  -- one level down at a pointer, and one level up from the table that it points to
  pub leads_down : (i t u : ℕ) (v : Option ℕ) → Leads scheme words root va (i + 1) t v → PointsTo v u → Leads scheme words root va i u (word_at words va i u)
  leads_down i t u v path point = leads-below i t point.entry u point.global (subst (Leads scheme words root va (i + 1) t) point.is path) point.kind

  pub leads_up : (i u : ℕ) (w : Option ℕ) → i < top_level scheme → Leads scheme words root va i u w → (t : ℕ) × (v : Option ℕ) × Leads scheme words root va (i + 1) t v × PointsTo v u
  leads_up i u w below path =
      let back : i + 1 - 1 ≡ i = omega arith in
      let point = path.pointers (i + 1) (omega arith) (omega arith) in (
        path.tables (i + 1),
        word_at words va (i + 1) (path.tables (i + 1)),
        leads-above i (i + 1) u w (omega arith) (omega arith) path,
        subst (PointsTo (word_at words va (i + 1) (path.tables (i + 1)))) (ap path.tables back ∙ path.last) point,
      )

pub ruleset pointer_by_pointer = (leads-start, leads_down, leads_up)
