-- Below words that are the same two roots have the same tables.
use Rattle.std.proofs.Common.{◌≡◌, ℕ, zero, suc, ◌+◌, ◌-◌, ◌<◌, ◌≤◌, Bool, true, false, cond, List, [], ◌∷◌, drop, get_or, length, Option, Some, ap, sym, ◌∙◌, subst, refl, arith}
use Rattle.std.specs.Prelude.{◌||◌}
use Rattle.std.specs.List.{list_any}
use Rattle.pte.specs.declared.scheme.Scheme.{Scheme}
use Rattle.pte.specs.Address.{level_of, top_level}
use Rattle.walk.specs.Leads.{Tables, word_at, Leads, IsGlobalAt}
use Rattle.walk.specs.Pointers.{next_table, pointed, table_after}
use Rattle.walk.proofs.Paths.{leads-start}
use Rattle.walk.proofs.Downward.{leads_by_pointers}
use Rattle.tlb.specs.declared.store.Entry.{Entry}
use Rattle.watch.specs.Holding.{HasLeaf}
use Rattle.watch.specs.Computed.{is_mapped}
use Rattle.watch.specs.Staleness.{IsMapped}
use Rattle.watch.proofs.Computed.{false_iff, mapped_iff}
use Rattle.std.proofs.lemmas.Bool.{false_from_ne_true}
use Rattle.watch_tables.proofs.PathWords.{leaf-filled}

module _ (scheme : Scheme) (words : Tables) (root other va : ℕ) (same : word_at words va (top_level scheme) root ≡ word_at words va (top_level scheme) other) where
  table-like : (n : ℕ) → table_after scheme words root va (suc n) ≡ table_after scheme words other va (suc n)
  table-like zero =
      let top : top_level scheme ≡ top_level scheme - zero = omega arith in
      ap pointed (subst (λ k. word_at words va k root ≡ word_at words va k other) top same)
  table-like (suc n) = ap (next_table words va (top_level scheme - suc n)) (table-like n)

  leads-from : (n i t : ℕ) (w : Option ℕ) → top_level scheme - i ≡ n → i ≤ top_level scheme → table_after scheme words root va n ≡ Some t → w ≡ word_at words va i t → (u : ℕ) × Leads scheme words other va i u w
  leads-from zero i t w count level at here =
      let top : top_level scheme ≡ i = omega arith in
      let first : t ≡ root = let e : Some root ≡ Some t = at in cc in
      let word : word_at words va (top_level scheme) other ≡ w = sym same ∙ ap (λ k. word_at words va k root) top ∙ ap (word_at words va i) (sym first) ∙ sym here in
      (other, subst (λ k. Leads scheme words other va k other w) top (subst (Leads scheme words other va (top_level scheme) other) word (leads-start scheme words other va)))
  leads-from (suc n) i t w count level at here =
      (t, (leads_by_pointers scheme words other va i t w).1 (level, ap (table_after scheme words other va) count ∙ sym (table-like n) ∙ at, here))

  leads-like : (i t : ℕ) (w : Option ℕ) → Leads scheme words root va i t w → (u : ℕ) × Leads scheme words other va i u w
  leads-like i t w path =
      let known = (leads_by_pointers scheme words root va i t w).0 path in
      leads-from (top_level scheme - i) i t w refl known.0 known.1 known.2

  global-like : (i : ℕ) → IsGlobalAt scheme words root va i → IsGlobalAt scheme words other va i
  global-like i g =
      let there = leads-like g.level g.table (Some g.entry) g.leads in
      record { level = g.level; table = there.0; entry = g.entry; from = g.from; leads = there.1; global = g.global }

-- so a leaf of the one is a leaf of the other
pub leaf-like : (scheme : Scheme) (words : Tables) (root other : ℕ) (e : Entry) → word_at words e.page.base (top_level scheme) root ≡ word_at words e.page.base (top_level scheme) other → HasLeaf scheme words root e → HasLeaf scheme words other e
leaf-like scheme words root other e same leaf =
    let there = leads-like scheme words root other e.page.base same (level_of e.page.size) leaf.table (Some leaf.word) leaf.leads in
    record {
      table = there.0;
      word = leaf.word;
      page = leaf.page;
      leads = there.1;
      kind = leaf.kind;
      aligned = leaf.aligned;
      global = (
        (λ h. global-like scheme words root other e.page.base same (level_of e.page.size) (leaf.global.0 h)),
        (λ g. leaf.global.1 (global-like scheme words other root e.page.base (sym same) (level_of e.page.size) g)),
      );
    }

pub mapped-like : (scheme : Scheme) (words : Tables) (root other : ℕ) (e : Entry) → word_at words e.page.base (top_level scheme) root ≡ word_at words e.page.base (top_level scheme) other → IsMapped scheme words (record { root = root; entry = e }) → IsMapped scheme words (record { root = other; entry = e })
mapped-like scheme words root other e same m = record {
  flags = m.flags;
  permit = m.permit;
  leaf = leaf-like scheme words root other (record e { flags = m.flags }) same m.leaf;
}

-- below 0 nothing is mapped
pub mapped-filled : (scheme : Scheme) (words : Tables) (root : ℕ) (e : Entry) → IsMapped scheme words (record { root = root; entry = e }) → word_at words e.page.base (top_level scheme) root ≡ Some 0 → ⊥
mapped-filled scheme words root e m is =
    leaf-filled scheme words root (record e { flags = m.flags }) (top_level scheme) root m.leaf m.leaf.page.level (leads-start scheme words root e.page.base) is

-- the same as tests
pub unmapped-like : (scheme : Scheme) (words : Tables) (root other : ℕ) (e : Entry) → word_at words e.page.base (top_level scheme) root ≡ word_at words e.page.base (top_level scheme) other → is_mapped scheme words (record { root = root; entry = e }) ≡ false → is_mapped scheme words (record { root = other; entry = e }) ≡ false
unmapped-like scheme words root other e same none =
    false_from_ne_true _ (λ h.
    false_iff _ _ (mapped_iff scheme words (record { root = root; entry = e })) none
    (mapped-like scheme words other root e (sym same) ((mapped_iff scheme words (record { root = other; entry = e })).0 h)))

pub unmapped-zero : (scheme : Scheme) (words : Tables) (root : ℕ) (e : Entry) → word_at words e.page.base (top_level scheme) root ≡ Some 0 → is_mapped scheme words (record { root = root; entry = e }) ≡ false
unmapped-zero scheme words root e is =
    false_from_ne_true _ (λ h. mapped-filled scheme words root e ((mapped_iff scheme words (record { root = root; entry = e })).0 h) is)

-- what does not pass is none of those that do
pub any_past : (test : ℕ → Bool) (xs : List ℕ) (k d : ℕ) → k < length xs → test (get_or xs k d) ≡ false → list_any test (drop k xs) ≡ list_any test (drop (k + 1) xs)
any_past test [] k d within none = absurd (omega arith)
any_past test (x ∷ xs) zero d within none = ap (λ b. b || list_any test xs) none
any_past test (x ∷ xs) (suc k) d within none =
    let next : suc (k + 1) ≡ suc k + 1 = omega arith in
    any_past test xs k d (omega arith) none ∙ ap (λ n. list_any test (drop n (x ∷ xs))) next

-- one of two, by a test
pub chosen : (test : Bool) (a b : ℕ) (P : ℕ → Type 0) → P a → P b → P (cond test a b)
chosen true a b P p q = p
chosen false a b P p q = q
