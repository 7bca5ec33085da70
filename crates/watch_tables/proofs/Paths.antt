-- A path goes down pointer by pointer, and ends at the leaf of its page.
use Rattle.std.proofs.Common.{◌≡◌, ℕ, ◌+◌, ◌-◌, ◌%◌, ◌<◌, Bool, true, false, Option, Some, None, IsTrue, cond, ap, sym, ◌∙◌, subst, refl, arith}
use Rattle.std.specs.Prelude.{◌↔◌, ◌||◌, ◌==◌}
use Rattle.std.proofs.lemmas.Bool.{eqb-true, eq-eqb, cond-true}
use Rattle.pte.specs.declared.scheme.Scheme.{Scheme}
use Rattle.pte.specs.declared.flags.PteFlags.{PteFlags}
use Rattle.pte.specs.declared.entry.Kind.{Kind}
use Rattle.pte.specs.declared.entry.Kind.TheVariants as kinds
use Rattle.pte.specs.Address.{IsPageOf, Span, level_of, pages_of, top_level, vpn_of}
use Rattle.pte.specs.Entry.{kind_of, is_global}
use Rattle.pte.proofs.EntryKinds.{Table-global, Leaf-global}
use Rattle.walk.specs.Leads.{Tables, word_at, Leads, IsGlobalAt}
use Rattle.walk.proofs.Paths.{leads-start, leads-below, same_word, through, none_above, global-here}
use Rattle.walk.proofs.Unique.{same_bool}
use Rattle.tlb.specs.declared.store.Entry.{Entry}
use Rattle.watch.specs.Holding.{HasLeaf}
use Rattle.watch_tables.specs.declared.leaf.Leaf.{Leaf}
use Rattle.watch_tables.specs.declared.path.Reached.{Reached}
use Rattle.watch.specs.Staleness.{IsMapped}
use Rattle.watch_tables.specs.Paths.{IsAtLeast, kind_in, IsReached, pointed_from, leaf_from, leaf_of}

pub record SomeWord (word : Option ℕ) (kind : Kind) : Type 0 where
  pub entry : ℕ
  pub is : word ≡ Some entry
  pub of : kind_of entry ≡ kind

-- what is a pointer, or a leaf, is a word of memory
pub word-pointer : (word : Option ℕ) (ppn : ℕ) (on_it : Bool) → kind_in word ≡ kinds.Table ppn on_it → SomeWord word (kinds.Table ppn on_it)
word-pointer None ppn on_it is = cc
word-pointer (Some entry) ppn on_it is = record { entry = entry; is = refl; of = is }

pub word-leaf : (word : Option ℕ) (ppn : ℕ) (flags : PteFlags) → kind_in word ≡ kinds.Leaf ppn flags → SomeWord word (kinds.Leaf ppn flags)
word-leaf None ppn flags is = cc
word-leaf (Some entry) ppn flags is = record { entry = entry; is = refl; of = is }

-- a test that let something through
pub some_chosen : (test : Bool) (a b : Leaf) → cond test (Some a) None ≡ Some b → (test ≡ true) × (a ≡ b)
some_chosen true a b is = (refl, cc)
some_chosen false a b is = cc

not_some : (at : Reached) → Some at ≡ None → ⊥
not_some at is = absurd (cc)

module _ (scheme : Scheme) (words : Tables) (root va : ℕ) where
  pub reached-start : IsReached scheme words root va (top_level scheme) (record { table = root; global = false })
  reached-start = record {
    leads = leads-start scheme words root va;
    global = ((λ h. cc), (λ g. absurd (none_above scheme words root va g)));
  }

  below-kind : (level : ℕ) (at next : Reached) (kind : Kind) → IsReached scheme words root va (level + 1) at → kind_in (word_at words va (level + 1) at.table) ≡ kind → pointed_from at.global kind ≡ Some next
      → IsReached scheme words root va level next
  below-kind level at next kinds.Invalid reached of is = cc
  below-kind level at next kinds.Reserved reached of is = cc
  below-kind level at next (kinds.Leaf ppn flags) reached of is = cc
  below-kind level at next (kinds.Table ppn on_it) reached of is =
      let word = word-pointer (word_at words va (level + 1) at.table) ppn on_it of in
      let path : Leads scheme words root va (level + 1) at.table (Some word.entry) = subst (Leads scheme words root va (level + 1) at.table) word.is reached.leads in
      let known = global-here scheme words root va (level + 1) at.table word.entry at.global path reached.global in
      let there : Reached = record { table = ppn; global = at.global || on_it } in
      let same : there ≡ next = cc in
      subst (IsReached scheme words root va level) same (record {
        leads = leads-below scheme words root va level at.table word.entry ppn on_it path word.of;
        global = subst (λ g. IsTrue (at.global || g) ↔ IsGlobalAt scheme words root va (level + 1)) (Table-global word.entry ppn on_it word.of) known;
      })

  -- one level down at a pointer
  pub reached-below : (level : ℕ) (at next : Reached) → IsReached scheme words root va (level + 1) at → pointed_from at.global (kind_in (word_at words va (level + 1) at.table)) ≡ Some next → IsReached scheme words root va level next
  reached-below level at next reached is = below-kind level at next (kind_in (word_at words va (level + 1) at.table)) reached refl is

  -- below what is no pointer nothing leads
  pub none-below : (level i t : ℕ) (w : Option ℕ) (at : Reached) → IsReached scheme words root va level at → pointed_from at.global (kind_in (word_at words va level at.table)) ≡ None → i < level → Leads scheme words root va i t w → ⊥
  none-below level i t w at reached is lower path =
      let next = through scheme words root va level i at.table t (word_at words va level at.table) w lower reached.leads path in
      let point = next.1 in
      not_some (record { table = next.0; global = at.global || point.global }) (ap (pointed_from at.global) (sym (ap kind_in point.is ∙ point.kind)) ∙ is)

module _ (scheme : Scheme) (words : Tables) (root : ℕ) (e : Entry) (at : Reached) (page : IsPageOf scheme e.page) (reached : IsReached scheme words root e.page.base (level_of e.page.size) at) where
  -- G on the leaf or above it
  known : (entry : ℕ) (flags : PteFlags) → word_at words e.page.base (level_of e.page.size) at.table ≡ Some entry → kind_of entry ≡ kinds.Leaf e.ppn flags
      → IsTrue (at.global || is_global flags.0) ↔ IsGlobalAt scheme words root e.page.base (level_of e.page.size)
  known entry flags is of =
      let path : Leads scheme words root e.page.base (level_of e.page.size) at.table (Some entry) = subst (Leads scheme words root e.page.base (level_of e.page.size) at.table) is reached.leads in
      subst (λ g. IsTrue (at.global || g) ↔ IsGlobalAt scheme words root e.page.base (level_of e.page.size)) (sym (Leaf-global entry e.ppn flags of))
      (global-here scheme words root e.page.base (level_of e.page.size) at.table entry at.global path reached.global)

  -- the entry's leaf is the one there
  pub leaf-found : HasLeaf scheme words root e → leaf_from at.global (pages_of e.page.size) (kind_in (word_at words e.page.base (level_of e.page.size) at.table)) ≡ Some (leaf_of e)
  leaf-found leaf =
      let is : word_at words e.page.base (level_of e.page.size) at.table ≡ Some leaf.word = same_word scheme words root e.page.base (level_of e.page.size) at.table leaf.table _ (Some leaf.word) reached.leads leaf.leads in
      let ours = known leaf.word e.flags is leaf.kind in
      let global : at.global || is_global e.flags.0 ≡ e.global = same_bool (at.global || is_global e.flags.0) e.global ((λ h. leaf.global.1 (ours.0 h)), (λ h. ours.1 (leaf.global.0 h))) in
      ap (λ k. leaf_from at.global (pages_of e.page.size) k) (ap kind_in is ∙ leaf.kind)
      ∙ cond-true (e.ppn % pages_of e.page.size == 0) _ None (eq-eqb (e.ppn % pages_of e.page.size) 0 leaf.aligned)
      ∙ ap (λ g. Some (record { ppn = e.ppn; flags = e.flags; global = g })) global

  there-kind : (kind : Kind) → kind_in (word_at words e.page.base (level_of e.page.size) at.table) ≡ kind → leaf_from at.global (pages_of e.page.size) kind ≡ Some (leaf_of e) → HasLeaf scheme words root e
  there-kind kinds.Invalid of is = cc
  there-kind kinds.Reserved of is = cc
  there-kind (kinds.Table ppn on_it) of is = cc
  there-kind (kinds.Leaf ppn flags) of is =
      let parts = some_chosen (ppn % pages_of e.page.size == 0) (record { ppn = ppn; flags = flags; global = at.global || is_global flags.0 }) (leaf_of e) is in
      let word = word-leaf (word_at words e.page.base (level_of e.page.size) at.table) ppn flags of in
      let kind : kind_of word.entry ≡ kinds.Leaf e.ppn e.flags = word.of ∙ ap (λ (l : Leaf). kinds.Leaf l.ppn l.flags) parts.1 in
      let global : at.global || is_global e.flags.0 ≡ e.global = ap (λ (f : PteFlags). at.global || is_global f.0) (sym (ap (λ (l : Leaf). l.flags) parts.1)) ∙ ap (λ (l : Leaf). l.global) parts.1 in
      record {
        table = at.table;
        word = word.entry;
        page = page;
        leads = subst (Leads scheme words root e.page.base (level_of e.page.size) at.table) word.is reached.leads;
        kind = kind;
        aligned = ap (λ (l : Leaf). l.ppn % pages_of e.page.size) (sym parts.1) ∙ eqb-true (ppn % pages_of e.page.size) 0 parts.0;
        global = subst (λ g. IsTrue g ↔ IsGlobalAt scheme words root e.page.base (level_of e.page.size)) global (known word.entry e.flags word.is kind);
      }

  pub leaf-there : leaf_from at.global (pages_of e.page.size) (kind_in (word_at words e.page.base (level_of e.page.size) at.table)) ≡ Some (leaf_of e) → HasLeaf scheme words root e
  leaf-there is = there-kind (kind_in (word_at words e.page.base (level_of e.page.size) at.table)) refl is

-- the same at equal values
module _ (scheme : Scheme) (words : Tables) (root : ℕ) where
  here-kind : (base level index table : ℕ) (kind : Kind) → kind ≡ kind_in (words table index) → index ≡ vpn_of base level → kind ≡ kind_in (word_at words base level table)
  here-kind base level index table kind of by = of ∙ ap (λ n. kind_in (words table n)) by

  pub reached-next : (va here index : ℕ) (at next : Reached) (kind : Kind) (made : Option Reached) → 0 < here → IsReached scheme words root va here at → made ≡ pointed_from at.global kind → kind ≡ kind_in (words at.table index) → index ≡ vpn_of va here → made ≡ Some next
      → IsReached scheme words root va (here - 1) next
  reached-next va here index at next kind made above reached by of asked is =
      let up : here ≡ here - 1 + 1 = omega arith in
      let there : pointed_from at.global (kind_in (word_at words va here at.table)) ≡ Some next = ap (pointed_from at.global) (sym (here-kind va here index at.table kind of asked)) ∙ sym by ∙ is in
      reached-below scheme words root va (here - 1) at next (subst (λ k. IsReached scheme words root va k at) up reached)
      (subst (λ k. pointed_from at.global (kind_in (word_at words va k at.table)) ≡ Some next) up there)

  pub none-next : (va here index i t : ℕ) (w : Option ℕ) (at : Reached) (kind : Kind) (made : Option Reached) → i < here → IsReached scheme words root va here at → made ≡ pointed_from at.global kind → kind ≡ kind_in (words at.table index) → index ≡ vpn_of va here
      → made ≡ None → Leads scheme words root va i t w → ⊥
  none-next va here index i t w at kind made lower reached by of asked is path =
      none-below scheme words root va here i t w at reached (ap (pointed_from at.global) (sym (here-kind va here index at.table kind of asked)) ∙ sym by ∙ is) lower path

  -- where no table is reached at a page's level, it has no leaf
  pub no-leaf : (page : Span) (base level : ℕ) → base ≡ page.base → level ≡ level_of page.size → ((t : ℕ) (w : Option ℕ) → Leads scheme words root base level t w → ⊥) → (e : Entry) → e.page ≡ page → HasLeaf scheme words root e → ⊥
  no-leaf page base level at_base at_level none e same leaf =
      let to_base : e.page.base ≡ base = ap (λ (s : Span). s.base) same ∙ sym at_base in
      let to_level : level_of e.page.size ≡ level = ap (λ (s : Span). level_of s.size) same ∙ sym at_level in
      none leaf.table (Some leaf.word) (subst (λ k. Leads scheme words root base k leaf.table (Some leaf.word)) to_level (subst (λ b. Leads scheme words root b (level_of e.page.size) leaf.table (Some leaf.word)) to_base leaf.leads))

  pub leaf-iff : (page : Span) (base level index pages : ℕ) (at : Reached) (kind : Kind) (made : Option Leaf) → base ≡ page.base → level ≡ level_of page.size → pages ≡ pages_of page.size → IsPageOf scheme page
      → IsReached scheme words root base level at → made ≡ leaf_from at.global pages kind → kind ≡ kind_in (words at.table index) → index ≡ vpn_of base level
      → (e : Entry) → e.page ≡ page → HasLeaf scheme words root e ↔ (made ≡ Some (leaf_of e))
  leaf-iff page base level index pages at kind made at_base at_level at_pages is_page reached by of asked e same =
      let to_base : base ≡ e.page.base = at_base ∙ sym (ap (λ (s : Span). s.base) same) in
      let to_level : level ≡ level_of e.page.size = at_level ∙ sym (ap (λ (s : Span). level_of s.size) same) in
      let to_pages : pages ≡ pages_of e.page.size = at_pages ∙ sym (ap (λ (s : Span). pages_of s.size) same) in
      let there : IsReached scheme words root e.page.base (level_of e.page.size) at = subst (λ k. IsReached scheme words root e.page.base k at) to_level (subst (λ b. IsReached scheme words root b level at) to_base reached) in
      let its_page : IsPageOf scheme e.page = subst (IsPageOf scheme) (sym same) is_page in
      let kinds : kind ≡ kind_in (word_at words e.page.base (level_of e.page.size) at.table) = here-kind base level index at.table kind of asked ∙ ap (λ b. kind_in (word_at words b level at.table)) to_base ∙ ap (λ k. kind_in (word_at words e.page.base k at.table)) to_level in
      let all : made ≡ leaf_from at.global (pages_of e.page.size) (kind_in (word_at words e.page.base (level_of e.page.size) at.table)) = by ∙ ap (λ n. leaf_from at.global n kind) to_pages ∙ ap (leaf_from at.global (pages_of e.page.size)) kinds in
      ((λ leaf. all ∙ leaf-found scheme words root e at its_page there leaf), (λ is. leaf-there scheme words root e at its_page there (sym all ∙ is)))

-- what is mapped is a leaf that has it
module _ (scheme : Scheme) (words : Tables) (root : ℕ) (entry : Entry) (made : Option Leaf) (exact : (e : Entry) → e.page ≡ entry.page → HasLeaf scheme words root e ↔ (made ≡ Some (leaf_of e))) where
  pub mapped-leaf : (leaf : Leaf) → made ≡ Some leaf → IsAtLeast leaf entry → IsMapped scheme words (record { root = root; entry = entry })
  mapped-leaf leaf is has =
      let same : leaf ≡ leaf_of (record entry { flags = leaf.flags }) = ap (λ n. record { ppn = n; flags = leaf.flags; global = leaf.global }) has.ppn ∙ ap (λ g. record { ppn = entry.ppn; flags = leaf.flags; global = g }) has.global in
      record {
        flags = leaf.flags;
        permit = has.permit;
        leaf = (exact (record entry { flags = leaf.flags }) refl).1 (is ∙ ap Some same);
      }

  pub leaf-mapped : IsMapped scheme words (record { root = root; entry = entry }) → (leaf : Leaf) × (made ≡ Some leaf) × IsAtLeast leaf entry
  leaf-mapped m = (
    leaf_of (record entry { flags = m.flags }),
    (exact (record entry { flags = m.flags }) refl).0 m.leaf,
    record { ppn = refl; global = refl; permit = m.permit },
  )
