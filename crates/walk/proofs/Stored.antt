-- What leads in two memories that differ little.
use Rattle.std.proofs.Common.{◌≡◌, ℕ, zero, suc, ◌+◌, ◌-◌, ◌≤◌, ◌⊎◌, Bool, Option, Some, ap, sym, ◌∙◌, subst, refl, inl, inr, arith}
use Rattle.std.specs.Prelude.{◌↔◌, ◌==◌, ◌&&◌}
use Rattle.std.proofs.lemmas.Bool.{cases_lt, cases_eq, cond-true, cond-false, false_from_ne_true, and_parts, and_from, eqb-true, eq-eqb}
use Rattle.pte.specs.declared.scheme.Scheme.{Scheme}
use Rattle.pte.specs.declared.flags.PteFlags.{PteFlags}
use Rattle.pte.specs.Address.{top_level, vpn_of}
use Rattle.walk.specs.Leads.{Tables, word_at, PointsTo, Leads, IsGlobalAt}
use Rattle.walk.specs.Maps.{Maps}
use Rattle.walk.specs.Stage.{Stage, OnPath}
use Rattle.walk.specs.Stores.{AgreeBut, KeepsPointers, PassesThrough, stored}
use Rattle.walk.proofs.Paths.{leads-above, same_table, same_word}
use Rattle.walk.proofs.Members.{nothing_below}

module _ (scheme : Scheme) (old new : Tables) (root va : ℕ) where
  -- both memories have one word on a path, at level k and above
  abbrev pub Agree : (ℕ → ℕ) → ℕ → Type 0
  Agree tables k = (j : ℕ) → k ≤ j → j ≤ top_level scheme → word_at new va j (tables j) ≡ word_at old va j (tables j)

  -- so the path leads there in the other memory too
  pub leads-carried : (i k t : ℕ) (w : Option ℕ) → i ≤ k → k ≤ top_level scheme → (path : Leads scheme old root va i t w) → Agree path.tables (k + 1) → Leads scheme new root va k (path.tables k) (word_at new va k (path.tables k))
  leads-carried i k t w from level path agree = record {
    tables = path.tables;
    level = level;
    first = path.first;
    last = refl;
    pointers = λ j above below.
        let point = path.pointers j (omega arith) below in
        record { entry = point.entry; global = point.global; is = agree j (omega arith) below ∙ point.is; kind = point.kind };
    here = refl;
  }

  -- and G stands on it there too
  pub leads-same : (i t : ℕ) (w : Option ℕ) → (path : Leads scheme old root va i t w) → Agree path.tables i → Leads scheme new root va i t w
  leads-same i t w path agree =
      let moved = leads-carried i i t w (omega arith) path.level path (λ j above below. agree j (omega arith) below) in
      let word : word_at new va i (path.tables i) ≡ w = agree i (omega arith) path.level ∙ ap (word_at old va i) path.last ∙ sym path.here in
      subst (λ n. Leads scheme new root va i n w) path.last (subst (Leads scheme new root va i (path.tables i)) word moved)

  pub global-carried : (i k t : ℕ) (w : Option ℕ) → i ≤ k → (path : Leads scheme old root va i t w) → Agree path.tables k → IsGlobalAt scheme old root va k → IsGlobalAt scheme new root va k
  global-carried i k t w from path agree g =
      let reach : k ≤ g.level = g.from in
      let level : g.level ≤ top_level scheme = g.leads.level in
      let there = leads-above scheme old root va i g.level t w (omega arith) level path in
      let word : Some g.entry ≡ word_at old va g.level (path.tables g.level) = same_word scheme old root va g.level g.table (path.tables g.level) (Some g.entry) _ g.leads there in
      let moved = leads-carried i g.level t w (omega arith) level path (λ j above below. agree j (omega arith) below) in
      record {
        level = g.level;
        table = path.tables g.level;
        entry = g.entry;
        from = reach;
        leads = subst (Leads scheme new root va g.level (path.tables g.level)) (agree g.level reach level ∙ sym word) moved;
        global = g.global;
      }

-- the word that differs, or another
at_place : (old new : Tables) (table index : ℕ) → AgreeBut old new table index → (t n : ℕ) → ((t ≡ table) × (n ≡ index)) ⊎ (new t n ≡ old t n)
at_place old new table index but t n =
    elim (cases_eq t table) [
      | inl a ↦
          elim (cases_eq n index) [
            | inl b ↦ inl (a, b)
            | inr b ↦ inr (but.elsewhere t n (λ h. b h.1))
          ]
      | inr a ↦ inr (but.elsewhere t n (λ h. a h.0))
    ]

module _ (scheme : Scheme) (old new : Tables) (root va table index : ℕ) (but : AgreeBut old new table index) where
  place : (words : Tables) (k t : ℕ) → (t ≡ table) × (vpn_of va k ≡ index) → Leads scheme words root va k t (word_at words va k t) → Leads scheme words root va k table (words table index)
  place words k t here path = subst (λ n. Leads scheme words root va k table (words table n)) here.1 (subst (λ m. Leads scheme words root va k m (word_at words va k m)) here.0 path)

  -- from the top down to level k the words on a path are the same, or it passes through the word
  -- that differs
  agree_or_pass : (d i k t : ℕ) (w : Option ℕ) → k + d ≡ top_level scheme + 1 → i ≤ k → (path : Leads scheme old root va i t w) → Agree scheme old new root va path.tables k ⊎ PassesThrough scheme old new root va i table index
  agree_or_pass zero i k t w at from path = inl (λ j above below. absurd (omega arith))
  agree_or_pass (suc d) i k t w at from path =
      elim (agree_or_pass d i (k + 1) t w (omega arith) (omega arith) path) [
        | inr passes ↦ inr passes
        | inl agree ↦
            let level : k ≤ top_level scheme = omega arith in
            elim (at_place old new table index but (path.tables k) (vpn_of va k)) [
              | inl here ↦
                  inr (record {
                    level = k;
                    from = from;
                    asked = here.1;
                    before = place old k (path.tables k) here (leads-above scheme old root va i k t w from level path);
                    after = place new k (path.tables k) here (leads-carried scheme old new root va i k t w from level path agree);
                  })
              | inr same ↦
                  inl (λ j above below.
                  elim (cases_lt k j) [
                    | inl more ↦ agree j (omega arith) below
                    | inr less ↦ let e : k ≡ j = omega arith in subst (λ l. word_at new va l (path.tables l) ≡ word_at old va l (path.tables l)) e same
                  ])
            ]
      ]

  all_or_pass : (i t : ℕ) (w : Option ℕ) → (path : Leads scheme old root va i t w) → Agree scheme old new root va path.tables i ⊎ PassesThrough scheme old new root va i table index
  all_or_pass i t w path = agree_or_pass (top_level scheme + 1 - i) i i t w (omega (arith, path.level)) (omega arith) path

  -- what leads in one memory leads in the other, or passes through the word that differs
  pub leads_or_pass : (i t : ℕ) (w : Option ℕ) → Leads scheme old root va i t w → Leads scheme new root va i t w ⊎ PassesThrough scheme old new root va i table index
  leads_or_pass i t w path =
      elim (all_or_pass i t w path) [
        | inl agree ↦ inl (leads-same scheme old new root va i t w path agree)
        | inr passes ↦ inr passes
      ]

module _ (scheme : Scheme) (old new : Tables) (root page ppn table index : ℕ) (flags : PteFlags) (global : Bool) (but : AgreeBut old new table index) (m : Maps scheme old root page ppn flags global) where
  -- and so does what is mapped
  pub maps_or_pass : Maps scheme new root page ppn flags global ⊎ PassesThrough scheme old new root m.va m.level table index
  unfolding leads-same leads-carried
  maps_or_pass =
      elim (all_or_pass scheme old new root m.va table index but m.level m.table (Some m.entry) m.leads) [
        | inr passes ↦ inr passes
        | inl agree ↦
            let there = leads-same scheme old new root m.va m.level m.table (Some m.entry) m.leads agree in
            inl (record {
              va = m.va;
              level = m.level;
              table = m.table;
              entry = m.entry;
              leaf = m.leaf;
              canonical = m.canonical;
              of_page = m.of_page;
              leads = there;
              kind = m.kind;
              aligned = m.aligned;
              place = m.place;
              is_global = (
                (λ h. global-carried scheme old new root m.va m.level m.level m.table (Some m.entry) (omega arith) m.leads agree (m.is_global.0 h)),
                (λ g. m.is_global.1 (global-carried scheme new old root m.va m.level m.level m.table (Some m.entry) (omega arith) there (λ j above below. sym (agree j above below)) g)),
              );
            })
      ]

-- the two memories, the other way round
pub AgreeBut-turned : (old new : Tables) (table index : ℕ) → AgreeBut old new table index → AgreeBut new old table index
AgreeBut-turned old new table index but = record { elsewhere = λ t n apart. sym (but.elsewhere t n apart) }

module _ (scheme : Scheme) (old new : Tables) (root va i t : ℕ) (w : Option ℕ) (path : Leads scheme old root va i t w) (agree : Agree scheme old new root va path.tables (i + 1)) where
  -- where the words above a level agree, the same table leads there
  leads_agreed : Leads scheme new root va i t (word_at new va i t)
  leads_agreed = subst (λ n. Leads scheme new root va i n (word_at new va i n)) path.last (leads-carried scheme old new root va i i t w (omega arith) path.level path agree)

  -- and G stands above it in both memories
  global_agreed : IsGlobalAt scheme old root va (i + 1) ↔ IsGlobalAt scheme new root va (i + 1)
  unfolding leads-carried
  global_agreed = (
    global-carried scheme old new root va i (i + 1) t w (omega arith) path agree,
    global-carried scheme new old root va i (i + 1) (path.tables i) _ (omega arith) (leads-carried scheme old new root va i i t w (omega arith) path.level path agree) (λ j above below. sym (agree j above below)),
  )

-- a walk stays on its path where the words above its table stay
pub on_path_agreed : (scheme : Scheme) (old new : Tables) (root : ℕ) (s : Stage) (on : OnPath scheme old root s) → Agree scheme old new root s.va on.leads.tables (s.level + 1) → OnPath scheme new root s
on_path_agreed scheme old new root s on agree =
    let same = global_agreed scheme old new root s.va s.level s.table (word_at old s.va s.level s.table) on.leads agree in
    record {
      canonical = on.canonical;
      leads = leads_agreed scheme old new root s.va s.level s.table (word_at old s.va s.level s.table) on.leads agree;
      global = ((λ h. same.0 (on.global.0 h)), (λ g. on.global.1 (same.1 g)));
    }

-- and so where pointers stay
pub on_path_kept : (scheme : Scheme) (old new : Tables) (root : ℕ) (s : Stage) → KeepsPointers old new → OnPath scheme old root s → OnPath scheme new root s
on_path_kept scheme old new root s keeps on =
    on_path_agreed scheme old new root s on
    (λ j above below. keeps.kept (on.leads.tables j) (vpn_of s.va j) (on.leads.tables (j - 1)) (on.leads.pointers j (omega arith) below))

-- after a store the other words are as before, and this one is what was stored
pub stored_agrees : (words : Tables) (table index word : ℕ) → AgreeBut words (stored words table index word) table index
stored_agrees words table index word = record {
  elsewhere = λ t n apart.
      cond-false ((t == table) && (n == index)) _ _
      (false_from_ne_true _ (λ both. let parts = and_parts (t == table) (n == index) both in apart (eqb-true t table parts.0, eqb-true n index parts.1)));
}

pub stored-here : (words : Tables) (table index word : ℕ) → stored words table index word table index ≡ Some word
stored-here words table index word = cond-true ((table == table) && (index == index)) _ _ (and_from (table == table) (index == index) (eq-eqb table table refl) (eq-eqb index index refl))

-- and back, from the new memory to the old
passes-turned : (scheme : Scheme) (old new : Tables) (root va i table index : ℕ) → PassesThrough scheme new old root va i table index → PassesThrough scheme old new root va i table index
passes-turned scheme old new root va i table index p = record { level = p.level; from = p.from; asked = p.asked; before = p.after; after = p.before }

either_turned : (scheme : Scheme) (A : Type 0) (old new : Tables) (root va i table index : ℕ) → A ⊎ PassesThrough scheme new old root va i table index → A ⊎ PassesThrough scheme old new root va i table index
either_turned scheme A old new root va i table index (inl a) = inl a
either_turned scheme A old new root va i table index (inr p) = inr (passes-turned scheme old new root va i table index p)

pub leads_or_pass-back : (scheme : Scheme) (old new : Tables) (root va table index i t : ℕ) (w : Option ℕ) → AgreeBut old new table index → Leads scheme new root va i t w → Leads scheme old root va i t w ⊎ PassesThrough scheme old new root va i table index
leads_or_pass-back scheme old new root va table index i t w but path =
    either_turned scheme _ old new root va i table index (leads_or_pass scheme new old root va table index (AgreeBut-turned old new table index but) i t w path)

pub maps_or_pass-back : (scheme : Scheme) (old new : Tables) (root page ppn table index : ℕ) (flags : PteFlags) (global : Bool) → AgreeBut old new table index
    → (m : Maps scheme new root page ppn flags global) → Maps scheme old root page ppn flags global ⊎ PassesThrough scheme old new root m.va m.level table index
maps_or_pass-back scheme old new root page ppn table index flags global but m =
    either_turned scheme _ old new root m.va m.level table index (maps_or_pass scheme new old root page ppn table index flags global (AgreeBut-turned old new table index but) m)

-- a store over a word that is no pointer keeps the pointers
pub pointers-kept : (old new : Tables) (table index : ℕ) → AgreeBut old new table index → ((next : ℕ) → PointsTo (old table index) next → ⊥) → KeepsPointers old new
pointers-kept old new table index but none = record {
  kept = λ t n next point.
      elim (at_place old new table index but t n) [
        | inl here ↦
            let there : PointsTo (old table n) next = subst (λ m. PointsTo (old m n) next) here.0 point in
            absurd (none next (subst (λ m. PointsTo (old table m) next) here.1 there))
        | inr same ↦ same
      ];
}

-- and a path that passes through that word ends there
pub passes_at_end : (scheme : Scheme) (old new : Tables) (root va table index i t : ℕ) (w : Option ℕ) → Leads scheme old root va i t w → ((next : ℕ) → PointsTo (old table index) next → ⊥)
    → PassesThrough scheme old new root va i table index → (t ≡ table) × (vpn_of va i ≡ index) × (w ≡ old table index) × Leads scheme new root va i table (new table index)
passes_at_end scheme old new root va table index i t w path none p =
    let from : i ≤ p.level = p.from in
    let up = nothing_below scheme old root va p.level i table t (old table index) w p.before none path in
    let level : p.level ≡ i = omega arith in
    let here : Leads scheme old root va i table (old table index) = subst (λ k. Leads scheme old root va k table (old table index)) level p.before in (
      same_table scheme old root va i t table w (old table index) path here,
      ap (vpn_of va) (sym level) ∙ p.asked,
      same_word scheme old root va i t table w (old table index) path here,
      subst (λ k. Leads scheme new root va k table (new table index)) level p.after,
    )

pub ruleset agrees_elsewhere = (stored_agrees, stored-here)
