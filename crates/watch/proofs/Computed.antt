-- The tests of specs/Computed are of what the tables of a root have.
use Rattle.std.proofs.Common.{◌≡◌, ℕ, zero, suc, ◌+◌, ◌-◌, ◌≤◌, ◌%◌, Bool, true, false, Option, Some, None, IsTrue, ap, sym, ◌∙◌, subst, refl, inl, inr, arith}
use Rattle.std.specs.Prelude.{◌⊎◌, ◌↔◌, ◌==◌, ◌&&◌, ◌||◌, not, nat_le}
use Rattle.std.proofs.lemmas.Bool.{and_parts, and_from, cases_lt, eq-eqb, eqb-true, not-true, not_from_false, false_from_ne_true, or_cases, or_left, or_right, true≢false}
use Rattle.pte.specs.declared.scheme.Scheme.{Scheme}
use Rattle.pte.specs.declared.flags.PteFlags.{PteFlags}
use Rattle.pte.specs.declared.entry.Kind.{Kind}
use Rattle.pte.specs.declared.entry.Kind.TheVariants as kinds
use Rattle.pte.specs.Address.{IsPageOf, Span, bytes_of, is_canonical, level_of, pages_of, top_level}
use Rattle.pte.specs.Entry.{is_global, is_user, kind_of, may_read, may_write}
use Rattle.pte.proofs.Schemes.{is_canonical-IsCanonical}
use Rattle.walk.specs.Leads.{IsGlobalAt, Leads, Tables, word_at}
use Rattle.walk.specs.Pointers.{table_after}
use Rattle.walk.proofs.Downward.{leads_by_pointers}
use Rattle.walk.proofs.Paths.{global-above}
use Rattle.walk.proofs.Unique.{same_bool}
use Rattle.tlb.specs.declared.store.Entry.{Entry}
use Rattle.watch.specs.Holding.{HasLeaf, Translation}
use Rattle.watch.specs.Staleness.{IsMapped, Permit}
use Rattle.watch.specs.Computed.{at_table, has_leaf, is_global_up, is_global_word, is_leaf_kind, is_leaf_word, is_mapped, is_mapped_kind, is_mapped_word, is_page_of, is_same, permits, with_flags, word_there}
use Rattle.std.proofs.lemmas.Bool.Decides.{nat_tests}

-- facts by their tests
pub and_iff : (a b : Bool) (A B : Type 0) → (IsTrue a ↔ A) → (IsTrue b ↔ B) → IsTrue (a && b) ↔ (A × B)
and_iff a b A B p q = ((λ h. let parts = and_parts a b h in (p.0 parts.0, q.0 parts.1)), (λ h. and_from a b (p.1 h.0) (q.1 h.1)))

pub or_iff : (a b : Bool) (A B : Type 0) → (IsTrue a ↔ A) → (IsTrue b ↔ B) → IsTrue (a || b) ↔ (A ⊎ B)
or_iff a b A B p q = (
  (λ h. elim (or_cases a b h) [ inl l ↦ inl (p.0 l) | inr r ↦ inr (q.0 r) ]),
  (λ h. elim h [ inl l ↦ or_left a b (p.1 l) | inr r ↦ or_right a b (q.1 r) ]),
)

pub not_iff : (a : Bool) (A : Type 0) → (IsTrue a ↔ A) → IsTrue (not a) ↔ (¬ A)
not_iff a A p = ((λ h x. true≢false (sym (p.1 x) ∙ not-true a h)), (λ none. not_from_false a (false_from_ne_true a (λ t. none (p.0 t)))))

pub false_iff : (a : Bool) (A : Type 0) → (IsTrue a ↔ A) → (a ≡ false) → A → ⊥
false_iff a A p none x = true≢false (sym (p.1 x) ∙ none)

implies_iff : (a b : Bool) → IsTrue (not a || b) ↔ (IsTrue a → IsTrue b)
implies_iff true b = ((λ h t. h), (λ f. f refl))
implies_iff false b = ((λ h t. cc), (λ f. refl))

same_iff : (a b : Bool) → IsTrue (is_same a b) ↔ (a ≡ b)
same_iff true b = ((λ h. sym h), (λ e. sym e))
same_iff false b = ((λ h. sym (not-true b h)), (λ e. not_from_false b (sym e)))

-- the word that leads at level i

-- G is on the word that leads at level i, or on one that leads above it, of n levels

module _ (scheme : Scheme) (words : Tables) (root va : ℕ) where
  at-some : (i w : ℕ) (o : Option ℕ) → at_table words va i o ≡ Some w → (t : ℕ) × (o ≡ Some t) × (word_at words va i t ≡ Some w)
  at-some i w None e = cc
  at-some i w (Some t) e = (t, refl, e)

  pub there-leads : (i w : ℕ) → i ≤ top_level scheme → word_there scheme words root va i ≡ Some w → (t : ℕ) × Leads scheme words root va i t (Some w)
  there-leads i w level e =
      let at = at-some i w (table_after scheme words root va (top_level scheme - i)) e in
      (at.0, (leads_by_pointers scheme words root va i at.0 (Some w)).1 (level, at.1, sym at.2))

  pub leads-there : (i t w : ℕ) → Leads scheme words root va i t (Some w) → word_there scheme words root va i ≡ Some w
  leads-there i t w path =
      let h = (leads_by_pointers scheme words root va i t (Some w)).0 path in
      ap (at_table words va i) h.1 ∙ sym h.2

  global_of : (o : Option ℕ) → IsTrue (is_global_word o) → (w : ℕ) × (o ≡ Some w) × IsTrue (is_global w)
  global_of None h = cc
  global_of (Some w) h = (w, refl, h)

  up-global : (n i : ℕ) → i + n ≡ top_level scheme + 1 → IsTrue (is_global_up scheme words root va i n) → IsGlobalAt scheme words root va i
  up-global zero i at h = cc
  up-global (suc n) i at h =
      elim (or_cases (is_global_word (word_there scheme words root va i)) (is_global_up scheme words root va (i + 1) n) h) [
        | inl here ↦
            let on = global_of (word_there scheme words root va i) here in
            let path = there-leads i on.0 (omega arith) on.1 in
            record { level = i; table = path.0; entry = on.0; from = omega arith; leads = path.1; global = on.2 }
        | inr above ↦ global-above scheme words root va i (up-global n (i + 1) (omega arith) above)
      ]

  global-up : (n i : ℕ) → i + n ≡ top_level scheme + 1 → IsGlobalAt scheme words root va i → IsTrue (is_global_up scheme words root va i n)
  global-up zero i at g = let from = g.from in let level = g.leads.level in absurd (omega arith)
  global-up (suc n) i at g =
      elim (cases_lt i g.level) [
        | inl more ↦
            or_right (is_global_word (word_there scheme words root va i)) (is_global_up scheme words root va (i + 1) n)
            (global-up n (i + 1) (omega arith) (record { level = g.level; table = g.table; entry = g.entry; from = omega arith; leads = g.leads; global = g.global }))
        | inr less ↦
            let level : g.level ≡ i = omega (arith, g.from) in
            let here : word_there scheme words root va i ≡ Some g.entry = leads-there i g.table g.entry (subst (λ k. Leads scheme words root va k g.table (Some g.entry)) level g.leads) in
            or_left (is_global_word (word_there scheme words root va i)) (is_global_up scheme words root va (i + 1) n) (ap is_global_word here ∙ g.global)
      ]

  pub global_iff : (n i : ℕ) → i + n ≡ top_level scheme + 1 → IsTrue (is_global_up scheme words root va i n) ↔ IsGlobalAt scheme words root va i
  global_iff n i at = (up-global n i at, global-up n i at)

-- the tables have the entry

page_iff : (scheme : Scheme) (page : Span) → IsTrue (is_page_of scheme page) ↔ IsPageOf scheme page
page_iff scheme page = (
  (λ h.
      let parts = and_parts (nat_le (level_of page.size) (top_level scheme)) _ h in
      let more = and_parts (is_canonical scheme page.base) (page.base % bytes_of page.size == 0) parts.1 in
      let level : level_of page.size ≤ top_level scheme = grind (arith, nat_tests) in
      record { level = level; canonical = (is_canonical-IsCanonical scheme page.base).0 more.0; aligned = eqb-true _ _ more.1 }),
  (λ p.
      let le : level_of page.size ≤ top_level scheme = p.level in
      let level : IsTrue (nat_le (level_of page.size) (top_level scheme)) = grind (arith, nat_tests) in
      and_from _ _ level (and_from _ _ ((is_canonical-IsCanonical scheme page.base).1 p.canonical) (eq-eqb _ _ p.aligned))),
)

leaf_kind : (kind : Kind) (e : Entry) → IsTrue (is_leaf_kind kind e) → kind ≡ kinds.Leaf e.ppn e.flags
leaf_kind kinds.Invalid e h = cc
leaf_kind kinds.Reserved e h = cc
leaf_kind (kinds.Table ppn global) e h = cc
leaf_kind (kinds.Leaf ppn flags) e h =
    let parts = and_parts (ppn == e.ppn) (flags.0 == e.flags.0) h in
    let same : flags ≡ e.flags = ap (λ n. let f : PteFlags = record { 0 = n } in f) (eqb-true _ _ parts.1) in
    ap (λ n. kinds.Leaf n flags) (eqb-true _ _ parts.0) ∙ ap (λ f. kinds.Leaf e.ppn f) same

kind_leaf : (kind : Kind) (e : Entry) → kind ≡ kinds.Leaf e.ppn e.flags → IsTrue (is_leaf_kind kind e)
kind_leaf kind e is = ap (λ k. is_leaf_kind k e) is ∙ and_from (e.ppn == e.ppn) (e.flags.0 == e.flags.0) (eq-eqb _ _ refl) (eq-eqb _ _ refl)

leaf_word-of : (o : Option ℕ) (e : Entry) → IsTrue (is_leaf_word o e) → (w : ℕ) × (o ≡ Some w) × (kind_of w ≡ kinds.Leaf e.ppn e.flags)
leaf_word-of None e h = cc
leaf_word-of (Some w) e h = (w, refl, leaf_kind (kind_of w) e h)

module _ (scheme : Scheme) (words : Tables) (root : ℕ) (e : Entry) where
  abbrev level : ℕ
  level = level_of e.page.size

  abbrev above : ℕ
  above = top_level scheme + 1 - level_of e.page.size

  leaf-computed : IsTrue (has_leaf scheme words root e) → HasLeaf scheme words root e
  leaf-computed h =
      let parts = and_parts (is_page_of scheme e.page) _ h in
      let more = and_parts (is_leaf_word (word_there scheme words root e.page.base level) e) _ parts.1 in
      let last = and_parts (e.ppn % pages_of e.page.size == 0) _ more.1 in
      let page = (page_iff scheme e.page).0 parts.0 in
      let here = leaf_word-of (word_there scheme words root e.page.base level) e more.0 in
      let path = there-leads scheme words root e.page.base level here.0 page.level here.1 in
      let known = global_iff scheme words root e.page.base above level (omega (arith, page.level)) in
      let same : e.global ≡ is_global_up scheme words root e.page.base level above = (same_iff e.global _).0 last.1 in
      record {
        table = path.0;
        word = here.0;
        page = page;
        leads = path.1;
        kind = here.2;
        aligned = eqb-true _ _ last.0;
        global = ((λ g. known.0 (sym same ∙ g)), (λ g. same ∙ known.1 g));
      }

  computed-leaf : HasLeaf scheme words root e → IsTrue (has_leaf scheme words root e)
  computed-leaf leaf =
      let here = leads-there scheme words root e.page.base level leaf.table leaf.word leaf.leads in
      let known = global_iff scheme words root e.page.base above level (omega (arith, leaf.page.level)) in
      let same : e.global ≡ is_global_up scheme words root e.page.base level above =
      same_bool e.global (is_global_up scheme words root e.page.base level above) ((λ g. known.1 (leaf.global.0 g)), (λ g. leaf.global.1 (known.0 g))) in
      and_from _ _ ((page_iff scheme e.page).1 leaf.page)
      (and_from _ _ (ap (λ o. is_leaf_word o e) here ∙ kind_leaf (kind_of leaf.word) e leaf.kind)
      (and_from _ _ (eq-eqb _ _ leaf.aligned) ((same_iff e.global _).1 same)))

  pub leaf_iff : IsTrue (has_leaf scheme words root e) ↔ HasLeaf scheme words root e
  leaf_iff = (leaf-computed, computed-leaf)

-- the tables have at least its rights

permit_iff : (new old : PteFlags) → IsTrue (permits new old) ↔ Permit new old
permit_iff new old = (
  (λ h.
      let user = and_parts (is_same (is_user new.0) (is_user old.0)) _ h in
      let read = and_parts (not (may_read old.0) || may_read new.0) _ user.1 in
      let write = and_parts (not (may_write old.0) || may_write new.0) _ read.1 in
      record { user = (same_iff _ _).0 user.0; read = (implies_iff _ _).0 read.0; write = (implies_iff _ _).0 write.0; execute = (implies_iff _ _).0 write.1 }),
  (λ p. and_from _ _ ((same_iff _ _).1 p.user) (and_from _ _ ((implies_iff _ _).1 p.read) (and_from _ _ ((implies_iff _ _).1 p.write) ((implies_iff _ _).1 p.execute)))),
)

module _ (scheme : Scheme) (words : Tables) (x : Translation) where
  mapped-kind : (kind : Kind) → IsTrue (is_mapped_kind scheme words x kind) → IsMapped scheme words x
  mapped-kind kinds.Invalid h = cc
  mapped-kind kinds.Reserved h = cc
  mapped-kind (kinds.Table ppn global) h = cc
  mapped-kind (kinds.Leaf ppn flags) h =
      let parts = and_parts (permits flags x.entry.flags) _ h in
      record { flags = flags; permit = (permit_iff flags x.entry.flags).0 parts.0; leaf = (leaf_iff scheme words x.root (with_flags x flags)).0 parts.1 }

  mapped-word : (o : Option ℕ) → IsTrue (is_mapped_word scheme words x o) → IsMapped scheme words x
  mapped-word None h = cc
  mapped-word (Some word) h = mapped-kind (kind_of word) h

  pub mapped_iff : IsTrue (is_mapped scheme words x) ↔ IsMapped scheme words x
  mapped_iff = (
    mapped-word (word_there scheme words x.root x.entry.page.base (level_of x.entry.page.size)),
    (λ m.
        let here = leads-there scheme words x.root x.entry.page.base (level_of x.entry.page.size) m.leaf.table m.leaf.word m.leaf.leads in
        ap (is_mapped_word scheme words x) here ∙ ap (is_mapped_kind scheme words x) m.leaf.kind
        ∙ and_from _ _ ((permit_iff m.flags x.entry.flags).1 m.permit) ((leaf_iff scheme words x.root (with_flags x m.flags)).1 m.leaf)),
  )
