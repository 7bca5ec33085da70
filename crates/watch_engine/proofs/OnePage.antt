-- Which translations a hart may hold of a trace whose tables map one page of 4 KiB.
use Rattle.std.proofs.Common.{◌≡◌, ℕ, false, ◌-◌, ◌<◌, ◌≤◌, ◌/◌, ◌%◌, ◌^◌, zero, suc, Option, Some, None, List, [], ◌∷◌, ap, sym, ◌∙◌, subst, refl, inl, inr, arith}
use Rattle.std.specs.Prelude.{◌⊎◌, ◌==◌, ◌||◌, cond}
use Rattle.std.proofs.lemmas.Bool.{cases_Bool, eqb-true, false_from_ne_true, true≢false}
use Rattle.pte.specs.declared.address.PageSize.{PageSize}
use Rattle.pte.specs.declared.address.PageSize.TheVariants.{Kib4, Mib2, Gib1, Gib512}
use Rattle.pte.specs.declared.entry.Kind.{Kind}
use Rattle.pte.specs.declared.entry.Kind.TheVariants as kinds
use Rattle.pte.specs.declared.flags.PteFlags.{PteFlags}
use Rattle.pte.specs.declared.scheme.Scheme.TheVariants.{Sv39}
use Rattle.pte.specs.Address.{IsCanonical, Span, bytes_of, level_of, vpn_of}
use Rattle.pte.specs.Entry.{is_global, kind_of, table_word}
use Rattle.walk.specs.Leads.{IsGlobalAt, Tables, word_at}
use Rattle.walk.specs.Pointers.{next_table, pointed, table_after}
use Rattle.walk.proofs.Downward.{leads_by_pointers}
use Rattle.tlb.specs.declared.store.Entry.{Entry}
use Rattle.watch.specs.declared.trace.Record.{Record}
use Rattle.watch.specs.declared.trace.Record.TheVariants.{Satp, Store}
use Rattle.watch.specs.declared.trace.Space.{Space}
use Rattle.watch.specs.Trace.{Trace, satp_of, words_of}
use Rattle.watch.specs.Holding.{HasLeaf, Live, MayHold, Translation}
use Rattle.watch.specs.WorkedTraces.{pointers, small_page, trace_of}
use Rattle.watch.specs.Computed.{at_table, is_global_up, is_global_word}
use Rattle.watch.proofs.Computed.{global_iff}
use Rattle.watch.proofs.Gone.{nothing_held}

-- the words of the pointers of the page at 0x1000, of this leaf of it, and no other
pub record OnePage (words : Tables) (leaf : ℕ) : Type 0 where
  pub top : words 0x80000 0 ≡ Some (table_word 0x80001 false)
  pub no_top : (n : ℕ) → words 0x80000 (suc n) ≡ Some 0
  pub middle : words 0x80001 0 ≡ Some (table_word 0x80002 false)
  pub no_middle : (n : ℕ) → words 0x80001 (suc n) ≡ Some 0
  pub before : words 0x80002 0 ≡ Some 0
  pub here : words 0x80002 1 ≡ Some leaf
  pub after : (n : ℕ) → words 0x80002 (suc (suc n)) ≡ Some 0

differ : (m n : ℕ) → (m ≡ n → ⊥) → (m == n) ≡ false
differ m n apart = false_from_ne_true (m == n) (λ e. apart (eqb-true m n e))

-- a choice by whether two numbers that differ are the same
otherwise : {X : Type 0} (m n : ℕ) (then else : X) → (m ≡ n → ⊥) → cond (m == n) then else ≡ else
otherwise m n then else apart = λ j. cond (differ m n apart j) then else

abbrev kind_in : Option ℕ → Kind
kind_in None = kinds.Invalid
kind_in (Some word) = kind_of word

base_is : (va : ℕ) → IsCanonical Sv39 va → va % 2 ^ 12 ≡ 0 → va / 2 ^ 30 % 512 ≡ 0 → va / 2 ^ 21 % 512 ≡ 0 → va / 2 ^ 12 % 512 ≡ 1 → va ≡ 0x1000
base_is va (inl low) aligned top middle bottom =
    let a : va < 2 ^ 30 = omega (arith, low, top) in
    let b : va < 2 ^ 21 = omega (arith, a, middle) in
    omega (arith, b, bottom, aligned)
base_is va (inr high) aligned top middle bottom = absurd (omega (arith, high.0, high.1, top))

module _ (words : Tables) (leaf : ℕ) (p : OnePage words leaf) where
  top_pointer : (n t : ℕ) → pointed (words 0x80000 n) ≡ Some t → (n ≡ 0) × (t ≡ 0x80001)
  unfolding kind_of
  top_pointer zero t e = let f : Some 0x80001 ≡ Some t = sym (ap pointed p.top) ∙ e in (refl, cc)
  top_pointer (suc n) t e = let f : ◌≡◌ {A = Option ℕ} None (Some t) = sym (ap pointed (p.no_top n)) ∙ e in cc

  middle_pointer : (n t : ℕ) → pointed (words 0x80001 n) ≡ Some t → (n ≡ 0) × (t ≡ 0x80002)
  unfolding kind_of
  middle_pointer zero t e = let f : Some 0x80002 ≡ Some t = sym (ap pointed p.middle) ∙ e in (refl, cc)
  middle_pointer (suc n) t e = let f : ◌≡◌ {A = Option ℕ} None (Some t) = sym (ap pointed (p.no_middle n)) ∙ e in cc

  no_top_leaf : (n ppn : ℕ) (flags : PteFlags) → kind_in (words 0x80000 n) ≡ kinds.Leaf ppn flags → ⊥
  unfolding kind_of
  no_top_leaf zero ppn flags e = let f : kinds.Table 0x80001 false ≡ kinds.Leaf ppn flags = sym (ap kind_in p.top) ∙ e in cc
  no_top_leaf (suc n) ppn flags e = let f : kinds.Invalid ≡ kinds.Leaf ppn flags = sym (ap kind_in (p.no_top n)) ∙ e in cc

  no_middle_leaf : (n ppn : ℕ) (flags : PteFlags) → kind_in (words 0x80001 n) ≡ kinds.Leaf ppn flags → ⊥
  unfolding kind_of
  no_middle_leaf zero ppn flags e = let f : kinds.Table 0x80002 false ≡ kinds.Leaf ppn flags = sym (ap kind_in p.middle) ∙ e in cc
  no_middle_leaf (suc n) ppn flags e = let f : kinds.Invalid ≡ kinds.Leaf ppn flags = sym (ap kind_in (p.no_middle n)) ∙ e in cc

  bottom_leaf : (n ppn : ℕ) (flags : PteFlags) → kind_in (words 0x80002 n) ≡ kinds.Leaf ppn flags → (n ≡ 1) × (kind_of leaf ≡ kinds.Leaf ppn flags)
  unfolding kind_of
  bottom_leaf zero ppn flags e = let f : kinds.Invalid ≡ kinds.Leaf ppn flags = sym (ap kind_in p.before) ∙ e in cc
  bottom_leaf (suc zero) ppn flags e = (refl, sym (ap kind_in p.here) ∙ e)
  bottom_leaf (suc (suc n)) ppn flags e = let f : kinds.Invalid ≡ kinds.Leaf ppn flags = sym (ap kind_in (p.after n)) ∙ e in cc

  -- the pointers of the address lead to the leaf
  record LeadsHere (va ppn : ℕ) (flags : PteFlags) : Type 0 where
    top : vpn_of va 2 ≡ 0
    middle : vpn_of va 1 ≡ 0
    bottom : vpn_of va 0 ≡ 1
    kind : kind_of leaf ≡ kinds.Leaf ppn flags

  some_table : (o : Option ℕ) (va level table : ℕ) → next_table words va level o ≡ Some table → (t : ℕ) × (o ≡ Some t) × (next_table words va level (Some t) ≡ Some table)
  some_table None va level table e = cc
  some_table (Some t) va level table e = (t, refl, e)

  leads_here : (size : PageSize) (va table word ppn : ℕ) (flags : PteFlags) → level_of size ≤ 2 → table_after Sv39 words 0x80000 va (2 - level_of size) ≡ Some table → kind_in (word_at words va (level_of size) table) ≡ kinds.Leaf ppn flags
      → (size ≡ Kib4) × LeadsHere va ppn flags
  leads_here Gib512 va table word ppn flags level after kind = absurd (omega arith)
  leads_here Gib1 va table word ppn flags level after kind =
      let root : table ≡ 0x80000 = cc in
      absurd (no_top_leaf (vpn_of va 2) ppn flags (ap (λ t. kind_in (word_at words va 2 t)) (sym root) ∙ kind))
  leads_here Mib2 va table word ppn flags level after kind =
      let top = top_pointer (vpn_of va 2) table after in
      absurd (no_middle_leaf (vpn_of va 1) ppn flags (ap (λ t. kind_in (word_at words va 1 t)) (sym top.1) ∙ kind))
  leads_here Kib4 va table word ppn flags level after kind =
      let some = some_table (next_table words va 2 (Some 0x80000)) va 1 table after in
      let top = top_pointer (vpn_of va 2) some.0 some.1 in
      let middle = middle_pointer (vpn_of va 1) table (ap (λ t. pointed (word_at words va 1 t)) (sym top.1) ∙ some.2) in
      let bottom = bottom_leaf (vpn_of va 0) ppn flags (ap (λ t. kind_in (word_at words va 0 t)) (sym middle.1) ∙ kind) in
      (refl, record { top = top.0; middle = middle.0; bottom = bottom.0; kind = bottom.1 })

  not_global : is_global leaf ≡ false → is_global_up Sv39 words 0x80000 0x1000 0 3 ≡ false
  unfolding kind_of
  not_global none =
      let first : is_global_word (at_table words 0x1000 2 (Some 0x80000)) ≡ false = ap is_global_word p.top in
      let second : is_global_word (at_table words 0x1000 1 (pointed (words 0x80000 0))) ≡ false =
      ap (λ o. is_global_word (at_table words 0x1000 1 (pointed o))) p.top ∙ ap is_global_word p.middle in
      let third : is_global_word (at_table words 0x1000 0 (next_table words 0x1000 1 (pointed (words 0x80000 0)))) ≡ false =
      ap (λ o. is_global_word (at_table words 0x1000 0 (next_table words 0x1000 1 (pointed o)))) p.top
      ∙ ap (λ o. is_global_word (at_table words 0x1000 0 (pointed o))) p.middle ∙ ap is_global_word p.here ∙ none in
      λ j. third j || (second j || (first j || false))

  -- the only entry that the tables have
  pub record IsTheLeaf (e : Entry) : Type 0 where
    pub page : e.page ≡ small_page
    pub kind : kind_of leaf ≡ kinds.Leaf e.ppn e.flags
    pub global : e.global ≡ false

  pub the_leaf : is_global leaf ≡ false → (e : Entry) → HasLeaf Sv39 words 0x80000 e → IsTheLeaf e
  the_leaf none e l =
      let level : level_of e.page.size ≤ 2 = l.page.level in
      let parts = (leads_by_pointers Sv39 words 0x80000 e.page.base (level_of e.page.size) l.table (Some l.word)).0 l.leads in
      let found = leads_here e.page.size e.page.base l.table l.word e.ppn e.flags level parts.1 (sym (ap kind_in parts.2) ∙ l.kind) in
      let at = found.1 in
      let aligned : e.page.base % 2 ^ 12 ≡ 0 = (λ j. e.page.base % bytes_of (sym found.0 j)) ∙ l.page.aligned in
      let base : e.page.base ≡ 0x1000 = base_is e.page.base l.page.canonical aligned at.top at.middle at.bottom in
      let page : e.page ≡ small_page = λ j. record { base = base j; size = found.0 j } in
      let known = global_iff Sv39 words 0x80000 0x1000 3 0 refl in
      let global : e.global ≡ false =
      elim (cases_Bool e.global) [
        | inl is ↦ absurd (true≢false (sym (known.1 (subst (λ (q : Span). IsGlobalAt Sv39 words 0x80000 q.base (level_of q.size)) page (l.global.0 is))) ∙ not_global none))
        | inr no_g ↦ no_g
      ] in
      record { page = page; kind = at.kind; global = global }

-- a translation of the page
abbrev pub small : ℕ → ℕ → PteFlags → Translation
small asid ppn flags = record { root = 0x80000; entry = record { asid = asid; global = false; page = small_page; ppn = ppn; flags = flags } }

-- what a hart may hold
pub record Candidate : Type 0 where
  pub hart : ℕ
  pub translation : Translation

abbrev pub candidate : ℕ → Translation → Candidate
candidate hart x = record { hart = hart; translation = x }

abbrev pub Among : List Candidate → ℕ → Translation → Type 0
Among [] hart x = ⊥
Among (c ∷ candidates) hart x = ((hart ≡ c.hart) × (x ≡ c.translation)) ⊎ Among candidates hart x

abbrev pub InSpace : List Candidate → ℕ → PteFlags → ℕ → Option Space → Type 0
InSpace candidates ppn flags hart None = Unit {0}
InSpace candidates ppn flags hart (Some space) = Among candidates hart (small space.asid ppn flags)

abbrev pub Filled : List Candidate → Kind → Option Space → Option Space → Type 0
Filled candidates (kinds.Leaf ppn flags) first second = InSpace candidates ppn flags 0 first × InSpace candidates ppn flags 1 second
Filled candidates _ first second = Unit {0}

abbrev pub IsUnderRoot : Option Space → Type 0
IsUnderRoot None = Unit {0}
IsUnderRoot (Some space) = space.root ≡ 0x80000

pub record Harts (satps : ℕ → Option Space) (first second : Option Space) : Type 0 where
  pub of_first : satps 0 ≡ first
  pub of_second : satps 1 ≡ second
  pub of_others : (n : ℕ) → satps (suc (suc n)) ≡ None
  pub first_root : IsUnderRoot first
  pub second_root : IsUnderRoot second

-- the trace leaves the page and these satps, and a hart may hold only what is among the candidates
pub record Leaves (candidates : List Candidate) (trace : Trace) (leaf : ℕ) (first second : Option Space) : Type 0 where
  pub page : OnePage (words_of trace) leaf
  pub harts : Harts (satp_of trace) first second
  pub only : (hart : ℕ) (x : Translation) → MayHold Sv39 trace hart x → Among candidates hart x

-- what a hart fills in a space: of what is not global, the root and the ASID are those of the space
record IsFilledIn (words : Tables) (space : Space) (x : Translation) : Type 0 where
  leaf : HasLeaf Sv39 words space.root x.entry
  root : x.entry.global ≡ false → x.root ≡ space.root
  asid : x.entry.global ≡ false → x.entry.asid ≡ space.asid

live_filled : (trace : Trace) (hart : ℕ) (x : Translation) → Live Sv39 trace hart x → (space : Space) × (satp_of trace hart ≡ Some space) × IsFilledIn (words_of trace) space x
live_filled trace hart x live =
    let is : x.entry.global ≡ false → live.space ≡ record { root = x.root; asid = x.entry.asid } =
    λ own.
    elim live.belongs [
      | inl global ↦ absurd (true≢false (sym global ∙ own))
      | inr is ↦ is
    ] in
    (live.space, live.satp, record { leaf = live.leaf; root = λ own. sym (ap (λ (s : Space). s.root) (is own)); asid = λ own. sym (ap (λ (s : Space). s.asid) (is own)) })

filled_among : (candidates : List Candidate) (words : Tables) (leaf : ℕ) (hart : ℕ) (o : Option Space) (space : Space) (x : Translation) → OnePage words leaf → is_global leaf ≡ false → IsUnderRoot o
    → ((ppn : ℕ) (flags : PteFlags) → kind_of leaf ≡ kinds.Leaf ppn flags → InSpace candidates ppn flags hart o)
    → o ≡ Some space → IsFilledIn words space x → Among candidates hart x
filled_among candidates words leaf hart o space x page none under filled is l =
    let root : space.root ≡ 0x80000 = subst IsUnderRoot is under in
    let e = the_leaf words leaf page none x.entry (subst (λ r. HasLeaf Sv39 words r x.entry) root l.leaf) in
    let same : x ≡ small space.asid x.entry.ppn x.entry.flags =
    λ j. record { root = (l.root e.global ∙ root) j; entry = record { asid = l.asid e.global j; global = e.global j; page = e.page j; ppn = x.entry.ppn; flags = x.entry.flags } } in
    subst (Among candidates hart) (sym same) (subst (InSpace candidates x.entry.ppn x.entry.flags hart) is (filled x.entry.ppn x.entry.flags e.kind))

no_space : (space : Space) → ◌≡◌ {A = Option Space} None (Some space) → ⊥
no_space space e = cc

live_among : (candidates : List Candidate) (trace : Trace) (leaf : ℕ) (first second : Option Space) → OnePage (words_of trace) leaf → Harts (satp_of trace) first second → is_global leaf ≡ false → Filled candidates (kind_of leaf) first second
    → (hart : ℕ) (x : Translation) → Live Sv39 trace hart x → Among candidates hart x
live_among candidates trace leaf first second page harts none filled zero x live =
    let in_space = live_filled trace 0 x live in
    filled_among candidates (words_of trace) leaf 0 first in_space.0 x page none harts.first_root
    (λ ppn flags kind. (subst (λ k. Filled candidates k first second) kind filled).0) (sym harts.of_first ∙ in_space.1) in_space.2
live_among candidates trace leaf first second page harts none filled (suc zero) x live =
    let in_space = live_filled trace 1 x live in
    filled_among candidates (words_of trace) leaf 1 second in_space.0 x page none harts.second_root
    (λ ppn flags kind. (subst (λ k. Filled candidates k first second) kind filled).1) (sym harts.of_second ∙ in_space.1) in_space.2
live_among candidates trace leaf first second page harts none filled (suc (suc n)) x live =
    let in_space = live_filled trace (suc (suc n)) x live in
    absurd (no_space in_space.0 (sym (harts.of_others n) ∙ in_space.1))

after_record : (candidates : List Candidate) (newest : Record) (trace : Trace) (leaf : ℕ) (first second : Option Space) → OnePage (words_of (newest ∷ trace)) leaf → Harts (satp_of (newest ∷ trace)) first second → is_global leaf ≡ false → Filled candidates (kind_of leaf) first second
    → ((hart : ℕ) (x : Translation) → MayHold Sv39 trace hart x → Among candidates hart x) → Leaves candidates (newest ∷ trace) leaf first second
after_record candidates newest trace leaf first second page harts none filled only = record {
  page = page;
  harts = harts;
  only = λ hart x held. elim held [
    | inl live ↦ live_among candidates (newest ∷ trace) leaf first second page harts none filled hart x live
    | inr before ↦ only hart x before.0
  ];
}

module _ (candidates : List Candidate) where
  -- the pointers, before any hart has written satp
  pub of_pointers : Leaves candidates (trace_of pointers) 0 None None
  of_pointers = record {
    page = record { top = refl; no_top = λ n. otherwise (suc n) 0 _ _ (λ e. omega (arith, e)); middle = refl; no_middle = λ n. otherwise (suc n) 0 _ _ (λ e. omega (arith, e)); before = refl; here = refl; after = λ n. refl };
    harts = record { of_first = refl; of_second = refl; of_others = λ n. refl; first_root = tt; second_root = tt };
    only = λ hart x held. absurd (nothing_held Sv39 (trace_of pointers) hart x refl held);
  }

  pub leaf_stored : (trace : Trace) (leaf new : ℕ) (first second : Option Space) → is_global new ≡ false → Filled candidates (kind_of new) first second → Leaves candidates trace leaf first second → Leaves candidates (Store 0 0x80002008 new ∷ trace) new first second
  leaf_stored trace leaf new first second none filled l =
      let p = l.page in
      after_record candidates (Store 0 0x80002008 new) trace new first second
      (record { top = p.top; no_top = p.no_top; middle = p.middle; no_middle = p.no_middle; before = p.before; here = refl; after = λ n. otherwise (suc (suc n)) 1 _ _ (λ e. omega (arith, e)) ∙ p.after n })
      (record { of_first = l.harts.of_first; of_second = l.harts.of_second; of_others = l.harts.of_others; first_root = l.harts.first_root; second_root = l.harts.second_root }) none filled l.only

  pub first_enters : (trace : Trace) (leaf asid : ℕ) (first second : Option Space) → is_global leaf ≡ false → Filled candidates (kind_of leaf) (Some (record { root = 0x80000; asid = asid })) second → Leaves candidates trace leaf first second
      → Leaves candidates (Satp 0 (Some (record { root = 0x80000; asid = asid })) ∷ trace) leaf (Some (record { root = 0x80000; asid = asid })) second
  first_enters trace leaf asid first second none filled l =
      after_record candidates (Satp 0 (Some (record { root = 0x80000; asid = asid }))) trace leaf (Some (record { root = 0x80000; asid = asid })) second l.page
      (record { of_first = refl; of_second = l.harts.of_second; of_others = λ n. otherwise 0 (suc (suc n)) _ _ (λ e. omega (arith, e)) ∙ l.harts.of_others n; first_root = refl; second_root = l.harts.second_root }) none filled l.only

  pub second_enters : (trace : Trace) (leaf asid : ℕ) (first second : Option Space) → is_global leaf ≡ false → Filled candidates (kind_of leaf) first (Some (record { root = 0x80000; asid = asid })) → Leaves candidates trace leaf first second
      → Leaves candidates (Satp 1 (Some (record { root = 0x80000; asid = asid })) ∷ trace) leaf first (Some (record { root = 0x80000; asid = asid }))
  second_enters trace leaf asid first second none filled l =
      after_record candidates (Satp 1 (Some (record { root = 0x80000; asid = asid }))) trace leaf first (Some (record { root = 0x80000; asid = asid })) l.page
      (record { of_first = l.harts.of_first; of_second = refl; of_others = λ n. otherwise 1 (suc (suc n)) _ _ (λ e. omega (arith, e)) ∙ l.harts.of_others n; first_root = l.harts.first_root; second_root = refl }) none filled l.only

  -- a record that stores no word and writes no satp, once the page is unmapped
  pub unmapped_still : (newest : Record) (trace : Trace) (first second : Option Space) → words_of (newest ∷ trace) ≡ words_of trace → satp_of (newest ∷ trace) ≡ satp_of trace → Leaves candidates trace 0 first second → Leaves candidates (newest ∷ trace) 0 first second
  unfolding kind_of
  unmapped_still newest trace first second words satps l =
      after_record candidates newest trace 0 first second (subst (λ w. OnePage w 0) (sym words) l.page) (subst (λ s. Harts s first second) (sym satps) l.harts) refl tt l.only
