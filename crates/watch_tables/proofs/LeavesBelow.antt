-- The leaves at an index of the table of a way, and below it.
use Rattle.std.proofs.Common.{◌≡◌, ℕ, ◌+◌, ◌-◌, ◌*◌, ◌<◌, ◌≤◌, ◌⊎◌, Bool, true, false, Option, Some, None, List, [], ◌∷◌, ◌++◌, cond, ap, sym, ◌∙◌, subst, refl, inl, inr, arith}
use Rattle.std.specs.Prelude.{◌↔◌, ◌==◌, Result, Ok, Err, OnOk}
use Rattle.std.specs.List.{Contains}
use Rattle.std.specs.Option.{option_map}
use Rattle.std.proofs.lemmas.Bool.{cases_lt, eqb-true, eqb-false}
use Rattle.std.proofs.lemmas.List.Elements.{Contains-append_left, Contains-push, Contains-push_cases}
use Rattle.pte.specs.declared.scheme.Scheme.{Scheme}
use Rattle.pte.specs.declared.entry.Kind.{Kind}
use Rattle.pte.specs.declared.entry.Kind.TheVariants as kinds
use Rattle.pte.specs.Address.{IsPageOf, Span, level_of, level_pages, vpn_of}
use Rattle.walk.specs.Leads.{Tables, word_at}
use Rattle.tlb.specs.declared.store.Entry.{Entry}
use Rattle.watch.specs.Holding.{HasLeaf}
use Rattle.watch_tables.specs.declared.leaf.Leaf.{Leaf}
use Rattle.watch_tables.specs.declared.leaf.RootLeaf.{RootLeaf}
use Rattle.watch_tables.specs.declared.path.Reached.{Reached}
use Rattle.watch_tables.specs.declared.way.Way.{Way}
use Rattle.watch_tables.specs.Leaves.{IsLeafAt, IsLeafBelow}
use Rattle.watch_tables.specs.Paths.{IsPathSince, IsReached, entry_at, is_leading, kind_in, leaf_from, leaf_of, pointed_from}
use Rattle.watch_tables.specs.Ways.{IsWay, later, vpn_from, way_from}
use Rattle.watch_tables.proofs.Numbers.{same-page, vpn-next, vpn-split}
use Rattle.watch_tables.proofs.Paths.{leaf-found, leaf-there, none-below, reached-below}
use Rattle.watch_tables.proofs.PathSince.{later-le, same-since, since-here}
use Rattle.watch_tables.proofs.Storing.{zero-invalid}

-- a way on is one by a pointer
pub record IsNext (way : Way) (index : ℕ) (kind : Kind) (age : ℕ) (next : Way) : Type 0 where
  pub above : 0 < way.level
  pub at : Reached
  pub pointed : pointed_from way.at.global kind ≡ Some at
  pub is : next ≡ record { root = way.root; level = way.level - 1; vpn = way.vpn * 512 + index; at = at; since = later way.since age }

next-pointed : (way next : Way) (index : ℕ) (kind : Kind) (age : ℕ) (to : Option Reached) → pointed_from way.at.global kind ≡ to → (test : Bool) → (way.level == 0) ≡ test
    → cond test None (option_map (λ at. record { root = way.root; level = way.level - 1; vpn = way.vpn * 512 + index; at = at; since = later way.since age }) to) ≡ Some next → IsNext way index kind age next
next-pointed way next index kind age to pointed true is made = cc
next-pointed way next index kind age None pointed false is made = cc
next-pointed way next index kind age (Some at) pointed false is made =
    let not_zero = eqb-false way.level 0 is in
    record { above = omega arith; at = at; pointed = pointed; is = cc }

pub next-is : (way next : Way) (index : ℕ) (kind : Kind) (age : ℕ) → way_from way index kind age ≡ Some next → IsNext way index kind age next
next-is way next index kind age made = next-pointed way next index kind age (pointed_from way.at.global kind) refl (way.level == 0) refl made

chosen : (n : ℕ) (x : Way) (test : Bool) → (n == 0) ≡ test → 0 < n → cond test None (Some x) ≡ None → ⊥
chosen n x true is above none = let zero = eqb-true n 0 is in omega arith
chosen n x false is above none = absurd (cc)

pub none-pointed : (way : Way) (index : ℕ) (kind : Kind) (age : ℕ) (at : Reached) → way_from way index kind age ≡ None → 0 < way.level → pointed_from way.at.global kind ≡ Some at → ⊥
none-pointed way index kind age at none above pointed =
    let below : Reached → Way = λ to. record { root = way.root; level = way.level - 1; vpn = way.vpn * 512 + index; at = to; since = later way.since age } in
    chosen way.level (below at) (way.level == 0) refl above (subst (λ o. cond (way.level == 0) None (option_map below o) ≡ None) pointed none)

-- what a leaf of a size is, at the level of the size
pub by-level : (g : Bool) (kind : Kind) (sized level : ℕ) (made leaf : Option Leaf) → sized ≡ level → made ≡ leaf_from g (level_pages sized) kind → made ≡ leaf → leaf_from g (level_pages level) kind ≡ leaf
by-level g kind sized level made leaf at by is = ap (λ k. leaf_from g (level_pages k) kind) (sym at) ∙ sym by ∙ is

-- no word is a pointer and a leaf
pub not-both : (g h : Bool) (pages : ℕ) (kind : Kind) (at : Reached) (leaf : Leaf) → pointed_from g kind ≡ Some at → leaf_from h pages kind ≡ Some leaf → ⊥
not-both g h pages kinds.Invalid at leaf p l = absurd (cc)
not-both g h pages kinds.Reserved at leaf p l = absurd (cc)
not-both g h pages (kinds.Table ppn on_it) at leaf p l = absurd (cc)
not-both g h pages (kinds.Leaf ppn flags) at leaf p l = absurd (cc)

-- a kind that does not lead on is neither
neither : (g : Bool) (pages : ℕ) (kind : Kind) (leaf : Leaf) → is_leading kind ≡ false → leaf_from g pages kind ≡ Some leaf → ⊥
neither g pages kinds.Invalid leaf out is = absurd (cc)
neither g pages kinds.Reserved leaf out is = absurd (cc)
neither g pages (kinds.Table ppn on_it) leaf out is = absurd (cc)
neither g pages (kinds.Leaf ppn flags) leaf out is = absurd (cc)

nowhere : (g : Bool) (kind : Kind) (at : Reached) → is_leading kind ≡ false → pointed_from g kind ≡ Some at → ⊥
nowhere g kinds.Invalid at out is = absurd (cc)
nowhere g kinds.Reserved at out is = absurd (cc)
nowhere g (kinds.Table ppn on_it) at out is = absurd (cc)
nowhere g (kinds.Leaf ppn flags) at out is = absurd (cc)

pub no-leaf-some : (leaf : Leaf) → None ≡ Some leaf → ⊥
no-leaf-some leaf is = absurd (cc)

some_or_none : {X : Type 0} (o : Option X) → (o ≡ None) ⊎ ((x : X) × (o ≡ Some x))
some_or_none None = inl refl
some_or_none (Some x) = inr (x, refl)

module _ (scheme : Scheme) (words : Tables) (since : ℕ → ℕ → ℕ) (way : Way) (index : ℕ) (kind : Kind) (age : ℕ) (is_way : IsWay scheme words since way) (at_index : index < 512) (is : kind ≡ kind_in (words way.at.table index)) (aged : age ≡ since way.at.table index) where
  -- the kind of the word that an address with these VPNs leads to
  kind-here : (va : ℕ) → vpn_of va way.level ≡ index → kind ≡ kind_in (word_at words va way.level way.at.table)
  kind-here va asked = is ∙ ap (λ n. kind_in (words way.at.table n)) (sym asked)

  -- an address with these VPNs has the index, and those above
  vpns-below : (va : ℕ) → vpn_from scheme way.level va ≡ way.vpn * 512 + index → (vpn_from scheme (way.level + 1) va ≡ way.vpn) × (vpn_of va way.level ≡ index)
  vpns-below va same =
      let split = vpn-split scheme way.level va is_way.levels.level in
      (omega arith, omega arith)

  vpns-of : (va : ℕ) → vpn_from scheme (way.level + 1) va ≡ way.vpn → vpn_of va way.level ≡ index → vpn_from scheme way.level va ≡ way.vpn * 512 + index
  vpns-of va above asked = vpn-split scheme way.level va is_way.levels.level ∙ ap (λ n. n * 512 + vpn_of va way.level) above ∙ ap (λ n. way.vpn * 512 + n) asked

  -- since when the path down to the word is what it is
  since-at : (va : ℕ) → vpn_from scheme (way.level + 1) va ≡ way.vpn → vpn_of va way.level ≡ index → (n : ℕ) → (later way.since age ≤ n) ↔ IsPathSince scheme words since way.root va way.level n
  since-at va above asked n =
      let here = since-here scheme words since way.root va way.level way.at.table (is_way.reached va above).leads n in
      let le = later-le way.since age n in
      let own : since way.at.table (vpn_of va way.level) ≡ age = ap (since way.at.table) asked ∙ sym aged in (
        (λ h. let both = le.0 h in here.1 (subst (λ s. s ≤ n) (sym own) both.1, (is_way.since_is va n above).0 both.0)),
        (λ h. let both = here.0 h in le.1 ((is_way.since_is va n above).1 both.1, subst (λ s. s ≤ n) own both.0)),
      )

  -- the way on by a pointer
  pub way-below : (next : Way) → IsNext way index kind age next → IsWay scheme words since next
  way-below next below =
      let up : way.level ≡ way.level - 1 + 1 = let above = below.above in omega arith in
      subst (IsWay scheme words since) (sym below.is) (record {
        levels = record {
          level = let le = is_way.levels.level in omega arith;
          vpn = vpn-next scheme way.level way.vpn index below.above is_way.levels.level is_way.levels.vpn at_index;
        };
        reached = λ va same.
            let vpns = vpns-below va (ap (λ k. vpn_from scheme k va) up ∙ same) in
            let reached = is_way.reached va vpns.0 in
            reached-below scheme words way.root va (way.level - 1) way.at below.at (subst (λ k. IsReached scheme words way.root va k way.at) up reached)
            (subst (λ k. pointed_from way.at.global (kind_in (word_at words va k way.at.table)) ≡ Some below.at) up (ap (pointed_from way.at.global) (sym (kind-here va vpns.1)) ∙ below.pointed));
        since_is = λ va n same.
            let vpns = vpns-below va (ap (λ k. vpn_from scheme k va) up ∙ same) in
            subst (λ k. (later way.since age ≤ n) ↔ IsPathSince scheme words since way.root va k n) up (since-at va vpns.0 vpns.1 n);
      })

  -- a leaf at the index is the word there, or stands behind it
  pub leaf-or-pointer : (x : RootLeaf) → IsLeafAt scheme words since way index x
      → ((level_of x.entry.page.size ≡ way.level) × (leaf_from way.at.global (level_pages way.level) kind ≡ Some (leaf_of x.entry)))
      ⊎ ((level_of x.entry.page.size < way.level) × (next : Reached) × (pointed_from way.at.global kind ≡ Some next))
  leaf-or-pointer x leaf =
      let e : Entry = x.entry in
      let reached = is_way.reached e.page.base leaf.below.vpn in
      let here = kind-here e.page.base leaf.index_is in
      let has = subst (λ r. HasLeaf scheme words r e) leaf.below.root_is leaf.below.leaf.leaf in
      elim (cases_lt (level_of e.page.size) way.level) [
        | inl lower ↦
            elim (some_or_none (pointed_from way.at.global kind)) [
              | inl none ↦
                  absurd (none-below scheme words way.root e.page.base way.level (level_of e.page.size) has.table (Some has.word) way.at reached (ap (pointed_from way.at.global) (sym here) ∙ none) lower has.leads)
              | inr found ↦ inr (lower, found.0, found.1)
            ]
        | inr not_lower ↦
            let at_most = leaf.below.level in
            let level : level_of e.page.size ≡ way.level = omega arith in
            let there = leaf-found scheme words way.root e way.at has.page (subst (λ k. IsReached scheme words way.root e.page.base k way.at) (sym level) reached) has in
            inl (
              level,
              ap (λ k. leaf_from way.at.global (level_pages way.level) k) here
                  ∙ ap (λ k. leaf_from way.at.global (level_pages k) (kind_in (word_at words e.page.base k way.at.table))) (sym level)
                  ∙ there,
            )
      ]

  -- no leaf is at an index whose word is neither
  pub nothing-at : is_leading kind ≡ false → (x : RootLeaf) → IsLeafAt scheme words since way index x → ⊥
  nothing-at out x leaf =
      elim (leaf-or-pointer x leaf) [
        | inl here ↦ neither way.at.global (level_pages way.level) kind (leaf_of x.entry) out here.1
        | inr there ↦ nowhere way.at.global kind there.1 out there.2
      ]

  -- the leaf at the index
  module _ (page : Span) (leaf : Leaf) (of_scheme : IsPageOf scheme page) (level : level_of page.size ≡ way.level) (vpns : vpn_from scheme way.level page.base ≡ way.vpn * 512 + index) (made : leaf_from way.at.global (level_pages way.level) kind ≡ Some leaf) where
    abbrev pub here-leaf : RootLeaf
    here-leaf = record { root = way.root; entry = entry_at page leaf; since = later way.since age }

    pub word-leaf-at : IsLeafAt scheme words since way index here-leaf
    word-leaf-at =
        let known = vpns-below page.base vpns in
        let reached = subst (λ k. IsReached scheme words way.root page.base k way.at) (sym level) (is_way.reached page.base known.0) in
        let found = ap (λ k. leaf_from way.at.global (level_pages k) (kind_in (word_at words page.base k way.at.table))) level ∙ ap (leaf_from way.at.global (level_pages way.level)) (sym (kind-here page.base known.1)) ∙ made in
        record {
          below = record {
            root_is = refl;
            leaf = record {
              asid = refl;
              leaf = leaf-there scheme words way.root (entry_at page leaf) way.at of_scheme reached found;
              since_is = λ n. subst (λ k. (later way.since age ≤ n) ↔ IsPathSince scheme words since way.root page.base k n) (sym level) (since-at page.base known.0 known.1 n);
            };
            level = omega arith;
            vpn = known.0;
          };
          index_is = known.1;
        }

    same-leaf : (x : RootLeaf) → x.root ≡ way.root → x.entry ≡ entry_at page leaf → x.since ≡ later way.since age → here-leaf ≡ x
    same-leaf x root entry age_is =
        ap (λ r. record { root = r; entry = entry_at page leaf; since = later way.since age }) (sym root) ∙ ap (λ (e : Entry). record { root = x.root; entry = e; since = later way.since age }) (sym entry)
        ∙ ap (λ s. record { root = x.root; entry = x.entry; since = s }) (sym age_is)

    word-leaf-is : (x : RootLeaf) → IsLeafAt scheme words since way index x → here-leaf ≡ x
    word-leaf-is x at =
        elim (leaf-or-pointer x at) [
          | inl here ↦
              let e : Entry = x.entry in
              let leaves : leaf ≡ leaf_of e = let found = here.1 in cc in
              let pages : page ≡ e.page = same-page scheme way.level page e.page of_scheme at.below.leaf.leaf.page level here.0 (vpns ∙ sym (vpns-of e.page.base at.below.vpn at.index_is)) in
              let entry : entry_at page leaf ≡ e = ap (λ (p : Span). entry_at p leaf) pages ∙ ap (λ (l : Leaf). entry_at e.page l) leaves ∙ ap (λ a. record { asid = a; global = e.global; page = e.page; ppn = e.ppn; flags = e.flags }) (sym at.below.leaf.asid) in
              let known = since-at e.page.base at.below.vpn at.index_is in
              let ages : x.since ≡ later way.since age =
              same-since x.since (later way.since age) (IsPathSince scheme words since way.root e.page.base way.level)
              (λ n. subst (λ k. (x.since ≤ n) ↔ IsPathSince scheme words since way.root e.page.base k n) here.0 (subst (λ r. (x.since ≤ n) ↔ IsPathSince scheme words since r e.page.base (level_of e.page.size) n) at.below.root_is (at.below.leaf.since_is n)))
              known
              in
              same-leaf x at.below.root_is (sym entry) ages
          | inr there ↦ absurd (not-both way.at.global way.at.global (level_pages way.level) kind there.1 leaf there.2 made)
        ]

  -- the leaves below the index
  pub below-at : (next : Way) → IsNext way index kind age next → (x : RootLeaf) → IsLeafBelow scheme words since next x → IsLeafAt scheme words since way index x
  below-at next below x leaf =
      let e : Entry = x.entry in
      let root : next.root ≡ way.root = ap (λ (w : Way). w.root) below.is in
      let level : next.level ≡ way.level - 1 = ap (λ (w : Way). w.level) below.is in
      let vpn : next.vpn ≡ way.vpn * 512 + index = ap (λ (w : Way). w.vpn) below.is in
      let above = below.above in
      let at_most = leaf.level in
      let up : way.level ≡ next.level + 1 = omega arith in
      let known = vpns-below e.page.base (ap (λ k. vpn_from scheme k e.page.base) up ∙ leaf.vpn ∙ vpn) in
      record { below = record { root_is = leaf.root_is ∙ root; leaf = leaf.leaf; level = omega arith; vpn = known.0 }; index_is = known.1 }

  pub at-below : (next : Way) → IsNext way index kind age next → (x : RootLeaf) → IsLeafAt scheme words since way index x → IsLeafBelow scheme words since next x
  at-below next below x leaf =
      let e : Entry = x.entry in
      let root : next.root ≡ way.root = ap (λ (w : Way). w.root) below.is in
      let level : next.level ≡ way.level - 1 = ap (λ (w : Way). w.level) below.is in
      let vpn : next.vpn ≡ way.vpn * 512 + index = ap (λ (w : Way). w.vpn) below.is in
      let above = below.above in
      let up : next.level + 1 ≡ way.level = omega arith in
      elim (leaf-or-pointer x leaf) [
        | inl here ↦ absurd (not-both way.at.global way.at.global (level_pages way.level) kind below.at (leaf_of e) below.pointed here.1)
        | inr there ↦
            let lower = there.0 in
            record { root_is = leaf.below.root_is ∙ sym root; leaf = leaf.below.leaf; level = omega arith; vpn = ap (λ k. vpn_from scheme k e.page.base) up ∙ vpns-of e.page.base leaf.below.vpn leaf.index_is ∙ sym vpn }
      ]

  -- what is added at an index is there after it
  pub added-leaf : (page : Span) (leaf : Leaf) (entry : Entry) (count : ℕ) (old new : List RootLeaf) → IsPageOf scheme page → level_of page.size ≡ way.level → vpn_from scheme way.level page.base ≡ way.vpn * 512 + index
      → leaf_from way.at.global (level_pages way.level) kind ≡ Some leaf → entry ≡ entry_at page leaf → count ≡ later way.since age
      → new ≡ old ++ record { root = way.root; entry = entry; since = count } ∷ [] → (x : RootLeaf) → Contains new x ↔ (Contains old x ⊎ IsLeafAt scheme words since way index x)
  added-leaf page leaf entry count old new of_scheme level vpns made of count_is added x =
      let here : RootLeaf = here-leaf page leaf of_scheme level vpns made in
      let leaves : record { root = way.root; entry = entry; since = count } ≡ here =
      ap (λ (e : Entry). record { root = way.root; entry = e; since = count }) of ∙ ap (λ s. record { root = way.root; entry = entry_at page leaf; since = s }) count_is
      in
      let pushed : new ≡ old ++ here ∷ [] = added ∙ ap (λ (y : RootLeaf). old ++ y ∷ []) leaves in (
        (λ has. elim (Contains-push_cases old here x (subst (λ (l : List RootLeaf). Contains l x) pushed has)) [
          | inl before ↦ inl before
          | inr same ↦ inr (subst (λ (y : RootLeaf). IsLeafAt scheme words since way index y) same (word-leaf-at page leaf of_scheme level vpns made))
        ]),
        (λ either. subst (λ (l : List RootLeaf). Contains l x) (sym pushed) (elim either [
          | inl before ↦ Contains-append_left old (here ∷ []) x before
          | inr at ↦ subst (λ (y : RootLeaf). Contains (old ++ here ∷ []) y) (word-leaf-is page leaf of_scheme level vpns made x at) (Contains-push old here)
        ])),
      )

  pub added-below : (next : Way) (old new : List RootLeaf) → way_from way index kind age ≡ Some next → ((x : RootLeaf) → Contains new x ↔ (Contains old x ⊎ IsLeafBelow scheme words since next x))
      → (x : RootLeaf) → Contains new x ↔ (Contains old x ⊎ IsLeafAt scheme words since way index x)
  added-below next old new made added x =
      let below = next-is way next index kind age made in (
        (λ has. elim ((added x).0 has) [
          | inl before ↦ inl before
          | inr leaf ↦ inr (below-at next below x leaf)
        ]),
        (λ either. (added x).1 (elim either [
          | inl before ↦ inl before
          | inr leaf ↦ inr (at-below next below x leaf)
        ])),
      )

  -- nothing is at an index of a word that is neither an aligned leaf nor a pointer
  pub added-none : (old : List RootLeaf) → leaf_from way.at.global (level_pages way.level) kind ≡ None → way_from way index kind age ≡ None → (x : RootLeaf) → Contains old x ↔ (Contains old x ⊎ IsLeafAt scheme words since way index x)
  added-none old no_leaf no_pointer x = (
    (λ has. inl has),
    (λ either. elim either [
      | inl before ↦ before
      | inr leaf ↦
          elim (leaf-or-pointer x leaf) [
            | inl here ↦ absurd (no-leaf-some (leaf_of x.entry) (sym no_leaf ∙ here.1))
            | inr there ↦ let lower = there.0 in absurd (none-pointed way index kind age there.1 no_pointer (omega arith) there.2)
          ]
    ]),
  )

-- nothing is at an index whose word is 0
module _ (scheme : Scheme) (words : Tables) (since : ℕ → ℕ → ℕ) (way : Way) (is_way : IsWay scheme words since way) where
  nothing-at-zero : (n : ℕ) → n < 512 → words way.at.table n ≡ Some 0 → (x : RootLeaf) → IsLeafAt scheme words since way n x → ⊥
  nothing-at-zero n small zero = nothing-at scheme words since way n kinds.Invalid (since way.at.table n) is_way small (sym (ap kind_in zero ∙ zero-invalid)) refl refl

  -- the words of a table, one after the other: what is added of the leaves of those before this one
  abbrev pub IsBefore : ℕ → RootLeaf → Type 0
  IsBefore from x = IsLeafBelow scheme words since way x × (vpn_of x.entry.page.base way.level < from)

  pub loop-step : (from index : ℕ) (first old new : List RootLeaf) → from ≤ index → index < 512 → ((n : ℕ) → from ≤ n → n < index → words way.at.table n ≡ Some 0)
      → ((x : RootLeaf) → Contains old x ↔ (Contains first x ⊎ IsBefore from x))
      → ((x : RootLeaf) → Contains new x ↔ (Contains old x ⊎ IsLeafAt scheme words since way index x))
      → (x : RootLeaf) → Contains new x ↔ (Contains first x ⊎ IsBefore (index + 1) x)
  loop-step from index first old new le small zeros so_far added x = (
    (λ has. elim ((added x).0 has) [
      | inl before ↦
          elim ((so_far x).0 before) [
            | inl given ↦ inl given
            | inr leaf ↦ let less = leaf.1 in inr (leaf.0, omega arith)
          ]
      | inr at ↦ let asked = at.index_is in inr (at.below, omega arith)
    ]),
    (λ either. (added x).1 (elim either [
      | inl given ↦ inl ((so_far x).1 (inl given))
      | inr leaf ↦
          let less = leaf.1 in
          elim (cases_lt (vpn_of x.entry.page.base way.level) from) [
            | inl earlier ↦ inl ((so_far x).1 (inr (leaf.0, earlier)))
            | inr later_one ↦
                elim (cases_lt (vpn_of x.entry.page.base way.level) index) [
                  | inl skipped ↦
                      let at : IsLeafAt scheme words since way (vpn_of x.entry.page.base way.level) x = record { below = leaf.0; index_is = refl } in
                      absurd (nothing-at-zero (vpn_of x.entry.page.base way.level) (omega arith) (zeros (vpn_of x.entry.page.base way.level) later_one skipped) x at)
                  | inr here ↦ inr (record { below = leaf.0; index_is = omega arith })
                ]
          ]
    ])),
  )

  pub loop-end : (from : ℕ) (first old : List RootLeaf) → ((n : ℕ) → from ≤ n → n < 512 → words way.at.table n ≡ Some 0)
      → ((x : RootLeaf) → Contains old x ↔ (Contains first x ⊎ IsBefore from x))
      → (x : RootLeaf) → Contains old x ↔ (Contains first x ⊎ IsLeafBelow scheme words since way x)
  loop-end from first old zeros so_far x = (
    (λ has. elim ((so_far x).0 has) [
      | inl given ↦ inl given
      | inr leaf ↦ inr leaf.0
    ]),
    (λ either. elim either [
      | inl given ↦ (so_far x).1 (inl given)
      | inr leaf ↦
          elim (cases_lt (vpn_of x.entry.page.base way.level) from) [
            | inl earlier ↦ (so_far x).1 (inr (leaf, earlier))
            | inr later_one ↦
                let at : IsLeafAt scheme words since way (vpn_of x.entry.page.base way.level) x = record { below = leaf; index_is = refl } in
                absurd (nothing-at-zero (vpn_of x.entry.page.base way.level) (omega arith) (zeros (vpn_of x.entry.page.base way.level) later_one (omega arith)) x at)
          ]
    ]),
  )

-- what follows from an answer
pub on_ok : {X E P Q : Type 0} (r : Result X E) → (P → Q) → OnOk r P → OnOk r Q
on_ok (Ok x) f h = f h
on_ok (Err e) f h = tt
