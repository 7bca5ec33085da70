-- The path of a page where some words of memory change.
use Rattle.std.proofs.Common.{◌≡◌, ℕ, zero, suc, ◌+◌, ◌-◌, ◌<◌, ◌≤◌, ◌⊎◌, Bool, true, false, Option, Some, ap, sym, ◌∙◌, subst, refl, inl, inr, arith}
use Rattle.std.proofs.lemmas.Bool.{cases_lt, cases_Bool}
use Rattle.pte.specs.declared.scheme.Scheme.{Scheme}
use Rattle.pte.specs.declared.flags.PteFlags.{PteFlags}
use Rattle.pte.specs.declared.entry.Kind.TheVariants as kinds
use Rattle.pte.specs.Address.{level_of, top_level, vpn_of}
use Rattle.pte.specs.Entry.{kind_of}
use Rattle.walk.specs.Leads.{Tables, word_at, Leads, PointsTo}
use Rattle.walk.proofs.Paths.{leads-above, same_table, same_word, through}
use Rattle.walk.proofs.Stored.{Agree, global-carried, leads-carried}
use Rattle.tlb.specs.declared.store.Entry.{Entry}
use Rattle.watch.specs.Holding.{HasLeaf}
use Rattle.watch_tables.specs.Paths.{IsUnchangedSince}

-- a word that leads to a leaf is not 0
zero-invalid : kind_of 0 ≡ kinds.Invalid
unfolding kind_of
zero-invalid = refl

points-not-zero : (w : Option ℕ) (next : ℕ) → PointsTo w next → w ≡ Some 0 → ⊥
points-not-zero w next p z =
    let same : p.entry ≡ 0 = let e : Some p.entry ≡ Some 0 = sym p.is ∙ z in cc in
    let kind : kinds.Table next p.global ≡ kinds.Invalid = sym p.kind ∙ (ap kind_of same ∙ zero-invalid) in
    cc

leaf-not-zero : (word ppn : ℕ) (flags : PteFlags) → kind_of word ≡ kinds.Leaf ppn flags → Some word ≡ Some 0 → ⊥
leaf-not-zero word ppn flags kind z =
    let same : word ≡ 0 = cc in
    let kinds : kinds.Leaf ppn flags ≡ kinds.Invalid = sym kind ∙ (ap kind_of same ∙ zero-invalid) in
    cc

pub filled : (scheme : Scheme) (words : Tables) (root : ℕ) (e : Entry) → HasLeaf scheme words root e → (at table : ℕ) → level_of e.page.size ≤ at
    → Leads scheme words root e.page.base at table (word_at words e.page.base at table) → words table (vpn_of e.page.base at) ≡ Some 0 → ⊥
filled scheme words root e leaf at table from leads none =
    elim (cases_lt (level_of e.page.size) at) [
      | inl more ↦
          let next = through scheme words root e.page.base at (level_of e.page.size) table leaf.table _ (Some leaf.word) more leads leaf.leads in
          points-not-zero _ next.0 next.1 none
      | inr less ↦
          let same : at ≡ level_of e.page.size = omega arith in
          let here : Leads scheme words root e.page.base (level_of e.page.size) table (word_at words e.page.base at table) = subst (λ k. Leads scheme words root e.page.base k table (word_at words e.page.base at table)) same leads in
          let word : Some leaf.word ≡ word_at words e.page.base at table = same_word scheme words root e.page.base (level_of e.page.size) leaf.table table (Some leaf.word) _ leaf.leads here in
          leaf-not-zero leaf.word e.ppn e.flags leaf.kind (word ∙ none)
    ]

-- two memories that have the same words but for a set of places
module _ (scheme : Scheme) (old new : Tables) (is_in : ℕ → ℕ → Bool) (agree : (t n : ℕ) → is_in t n ≡ false → new t n ≡ old t n) (root : ℕ) where
  -- the first of the places on a path from the root down, in both memories
  pub record PassesIn (va i : ℕ) : Type 0 where
    pub at : ℕ
    pub table : ℕ
    pub from : i ≤ at
    pub within : is_in table (vpn_of va at) ≡ true
    pub before : Leads scheme old root va at table (word_at old va at table)
    pub after : Leads scheme new root va at table (word_at new va at table)

  -- no word of the path is at one of them
  abbrev pub Clear : ℕ → (ℕ → ℕ) → ℕ → Type 0
  Clear va tables k = (j : ℕ) → k ≤ j → j ≤ top_level scheme → is_in (tables j) (vpn_of va j) ≡ false

  clear-agree : (va : ℕ) (tables : ℕ → ℕ) (k : ℕ) → Clear va tables k → Agree scheme old new root va tables k
  clear-agree va tables k clear j above below = agree (tables j) (vpn_of va j) (clear j above below)

  clear_or_pass : (va d i k t : ℕ) (w : Option ℕ) → k + d ≡ top_level scheme + 1 → i ≤ k → (path : Leads scheme old root va i t w) → Clear va path.tables k ⊎ PassesIn va i
  clear_or_pass va zero i k t w at from path = inl (λ j above below. absurd (omega arith))
  clear_or_pass va (suc d) i k t w at from path =
      elim (clear_or_pass va d i (k + 1) t w (omega arith) (omega arith) path) [
        | inr passes ↦ inr passes
        | inl clear ↦
            let level : k ≤ top_level scheme = omega arith in
            elim (cases_Bool (is_in (path.tables k) (vpn_of va k))) [
              | inl here ↦ inr (record {
                at = k;
                table = path.tables k;
                from = from;
                within = here;
                before = leads-above scheme old root va i k t w from level path;
                after = leads-carried scheme old new root va i k t w from level path (clear-agree va path.tables (k + 1) clear);
              })
              | inr not_here ↦
                  inl (λ j above below.
                  elim (cases_lt k j) [
                    | inl more ↦ clear j (omega arith) below
                    | inr less ↦ let e : k ≡ j = omega arith in subst (λ l. is_in (path.tables l) (vpn_of va l) ≡ false) e not_here
                  ])
            ]
      ]

  all_clear_or_pass : (va i t : ℕ) (w : Option ℕ) → (path : Leads scheme old root va i t w) → Clear va path.tables i ⊎ PassesIn va i
  all_clear_or_pass va i t w path = clear_or_pass va (top_level scheme + 1 - i) i i t w (omega (arith, path.level)) (omega arith) path

  -- a leaf whose path passes none of them is in both memories, with the words of its path as they were
  pub record Stays (e : Entry) : Type 0 where
    pub leaf : HasLeaf scheme new root e
    pub path : (at table : ℕ) → level_of e.page.size ≤ at → Leads scheme new root e.page.base at table (word_at new e.page.base at table)
        → (is_in table (vpn_of e.page.base at) ≡ false) × Leads scheme old root e.page.base at table (word_at old e.page.base at table)

  abbrev moved : (va i t : ℕ) (w : Option ℕ) → (path : Leads scheme old root va i t w) → Agree scheme old new root va path.tables i → Leads scheme new root va i t w
  moved va i t w path same = record {
    tables = path.tables;
    level = path.level;
    first = path.first;
    last = path.last;
    pointers = λ j above below.
        let point = path.pointers j above below in
        record { entry = point.entry; global = point.global; is = same j (omega arith) below ∙ point.is; kind = point.kind };
    here = path.here ∙ (ap (word_at old va i) (sym path.last) ∙ (sym (same i (omega arith) path.level) ∙ ap (word_at new va i) path.last));
  }

  stays-clear : (e : Entry) → (p : HasLeaf scheme old root e) → Clear e.page.base p.leads.tables (level_of e.page.size) → Stays e
  stays-clear e p clear =
      let va : ℕ = e.page.base in
      let i : ℕ = level_of e.page.size in
      let same = clear-agree va p.leads.tables i clear in
      let there = moved va i p.table (Some p.word) p.leads same in
      record {
        leaf = record {
          table = p.table;
          word = p.word;
          page = p.page;
          leads = there;
          kind = p.kind;
          aligned = p.aligned;
          global = (
            (λ h. global-carried scheme old new root va i i p.table (Some p.word) (omega arith) p.leads same (p.global.0 h)),
            (λ g. p.global.1 (global-carried scheme new old root va i i p.table (Some p.word) (omega arith) there (λ j above below. sym (same j above below)) g)),
          );
        };
        path = λ at table from leads.
            let level : at ≤ top_level scheme = leads.level in
            let mine = leads-above scheme new root va i at p.table (Some p.word) from level there in
            let is : table ≡ p.leads.tables at = same_table scheme new root va at table (p.leads.tables at) _ _ leads mine in (
              ap (λ t. is_in t (vpn_of va at)) is ∙ clear at from level,
              subst (λ t. Leads scheme old root va at t (word_at old va at t)) (sym is) (leads-above scheme old root va i at p.table (Some p.word) from level p.leads),
            );
      }

  pub stays_or_passes : (e : Entry) → HasLeaf scheme old root e → Stays e ⊎ PassesIn e.page.base (level_of e.page.size)
  stays_or_passes e p =
      elim (all_clear_or_pass e.page.base (level_of e.page.size) p.table (Some p.word) p.leads) [
        | inl clear ↦ inl (stays-clear e p clear)
        | inr passes ↦ inr passes
      ]

-- the ages of the words of a path that stays are as they were
pub since_stays : (scheme : Scheme) (old new : Tables) (is_in : ℕ → ℕ → Bool) (agree : (t n : ℕ) → is_in t n ≡ false → new t n ≡ old t n) (root : ℕ) (e : Entry) (before after : ℕ → ℕ → ℕ)
    → ((t n : ℕ) → is_in t n ≡ false → after t n ≡ before t n) → Stays scheme old new is_in agree root e → (n : ℕ) → IsUnchangedSince scheme old before root e n → IsUnchangedSince scheme new after root e n
since_stays scheme old new is_in agree root e before after same stays n u = record {
  unchanged = λ at table from leads.
      let p = stays.path at table from leads in
      let one : after table (vpn_of e.page.base at) ≡ before table (vpn_of e.page.base at) = same table (vpn_of e.page.base at) p.0 in
      subst (λ m. m ≤ n) (sym one) (u.unchanged at table from p.1);
}

-- a leaf that was there since before the places changed was there before
pub record WasThere (scheme : Scheme) (old : Tables) (before : ℕ → ℕ → ℕ) (root : ℕ) (e : Entry) (n : ℕ) : Type 0 where
  pub leaf : HasLeaf scheme old root e
  pub unchanged : IsUnchangedSince scheme old before root e n

pub was_there : (scheme : Scheme) (old new : Tables) (is_in : ℕ → ℕ → Bool) → ((t n : ℕ) → is_in t n ≡ false → new t n ≡ old t n) → (root : ℕ) (e : Entry) (before after : ℕ → ℕ → ℕ)
    → ((t n : ℕ) → is_in t n ≡ false → after t n ≡ before t n) → (n : ℕ) → ((t i : ℕ) → is_in t i ≡ true → ¬ (new t i ≡ Some 0) → n < after t i)
    → HasLeaf scheme new root e → IsUnchangedSince scheme new after root e n → WasThere scheme old before root e n
was_there scheme old new is_in agree root e before after same n late leaf u =
    elim (stays_or_passes scheme new old is_in (λ t i h. sym (agree t i h)) root e leaf) [
      | inl stays ↦ record {
        leaf = stays.leaf;
        unchanged = since_stays scheme new old is_in (λ t i h. sym (agree t i h)) root e after before (λ t i h. sym (same t i h)) stays n u;
      }
      | inr passes ↦
          let old_enough = u.unchanged passes.at passes.table passes.from passes.before in
          let young = late passes.table (vpn_of e.page.base passes.at) passes.within (filled scheme new root e leaf passes.at passes.table passes.from passes.before) in
          absurd (omega arith)
    ]
