-- An accepted edit keeps the tree.
use Rattle.std.proofs.Common.{◌≡◌, ℕ, zero, suc, eqb, Option, ◌+◌, ◌-◌, ◌%◌, ◌<◌, ◌⊎◌, ◌^◌, ◌==◌, cond, Bool, true, false, Some, None, ap, sym, ◌∙◌, subst, refl, inl, inr, arith}
use Rattle.std.specs.Prelude.{slice_index, is_none, not}
use Rattle.std.proofs.lemmas.Bool.{cases_eq, ne_eqb}
use Rattle.pte.specs.declared.flags.PteFlags.{PteFlags}
use Rattle.pte.specs.declared.entry.Kind.{Kind}
use Rattle.pte.specs.declared.entry.Kind.TheVariants as kinds
use Rattle.pte.specs.Address.{level_pages, vpn_of}
use Rattle.pte.specs.Entry.{kind_of, is_global}
use Rattle.pte.specs.declared.entry.TheConstants.{PPN_BITS}
use Rattle.walk.specs.Leads.{Tables}
use Rattle.spaces.specs.declared.places.Place.{Place}
use Rattle.spaces.specs.declared.places.Place.TheVariants.{Space, Kernel}
use Rattle.spaces.specs.declared.wishes.Wish.{Wish}
use Rattle.spaces.specs.Layout.{Layout, HasPlace, home_of, spare_ppn}
use Rattle.spaces.specs.Held.{IsLayout}
use Rattle.spaces.specs.Holders.{Holders, first_unused, unused_spare}
use Rattle.spaces.specs.Edits.{Store, place_of, page_of, is_kernel, is_wrong_global}
use Rattle.spaces.specs.Tree.{start_level, IsIn, table_on, IsAtHome, of_spare, IsOwn, IsEntryOf, IsHome, IsTree}
use Rattle.walk.specs.Pointers.{pointed, pointed_kind}
use Rattle.spaces.specs.Accepted.{Accepted, Writes, adds_table, adds_leaf, removes_leaf, changes_leaf}
use Rattle.spaces.specs.Applied.{words_after_store, points_at, holders_after, seven}
use Rattle.walk.proofs.FoundMembers.{leaf-ppn}
use Rattle.spaces.proofs.Homes.{home-unique, sum-within}
use Rattle.spaces.proofs.Paths.{on, of-place, On, same-path, SamePath}
use Rattle.spaces.proofs.Stored.{stored-there}
use Rattle.spaces.proofs.Trees.{IsPlace, Unused, home-leaf, home-pointer, home-same, kind-zero, is_global-zero, pointed-zero, zero-leaf}
use Rattle.pte.proofs.EntryKinds.{kind-table}
use Rattle.spaces.proofs.EntryWords.{kind-stored, global-stored, pointed-table, global-table}
use Rattle.spaces.proofs.Accepting.{home-there}

-- the lowest unused spare frame is one
first-from : (holders : Holders) (count ppn frame : ℕ) → first_unused holders count ppn ≡ Some frame
    → (n : ℕ) × (n < count) × (frame ≡ ppn + n) × (holders frame ≡ None)
first-from holders zero ppn frame e = absurd cc
first-from holders (suc count) ppn frame e = by_first (is_none (holders ppn)) refl (first-from holders count (ppn + 1) frame) e
  where
    none_by : (o : Option Place) → is_none o ≡ true → o ≡ None
    none_by None e = refl
    none_by (Some p) e = absurd cc

    by_first : (t : Bool) → is_none (holders ppn) ≡ t → (first_unused holders count (ppn + 1) ≡ Some frame → (n : ℕ) × (n < count) × (frame ≡ ppn + 1 + n) × (holders frame ≡ None))
        → cond t (Some ppn) (first_unused holders count (ppn + 1)) ≡ Some frame → (n : ℕ) × (n < suc count) × (frame ≡ ppn + n) × (holders frame ≡ None)
    by_first true t rest e =
        let same : ppn ≡ frame = cc in
        (0, omega arith, omega arith, ap holders (sym same) ∙ none_by (holders ppn) t)
    by_first false t rest e =
        let r = rest e in
        (suc r.0, omega (arith, r.1), omega (arith, r.2), r.3)

pub fresh-of : (l : Layout) (h : ℕ) (holders : Holders) (frame : ℕ) → unused_spare l holders h ≡ Some frame → Unused l h holders frame
fresh-of l h holders frame e =
    let u = first-from holders (slice_index l.spares h) (spare_ppn l h) frame e in
    record { number = u.0; below = u.1; is = u.2; none = u.3 }

pub fresh-range : (l : Layout) (fits : IsLayout l) (h : ℕ) (holders : Holders) (frame : ℕ) → Unused l h holders frame → frame < 2 ^ PPN_BITS
fresh-range l fits h holders frame fresh = let part = sum-within l.spares h in omega (arith, fits.ppns_fit, fresh.below, fresh.is)

-- G of a leaf is the place's
global-flags : (place : Place) (flags : PteFlags) → is_wrong_global place flags ≡ false → is_global flags.0 ≡ is_kernel place
global-flags (Space s) flags e = e
global-flags Kernel flags e = not-not (is_global flags.0) e
  where
    not-not : (b : Bool) → not b ≡ false → b ≡ true
    not-not true e = refl
    not-not false e = sym e

entry-of : (word : ℕ) (kind : Kind) → kind_of word ≡ kind → IsEntryOf word kind → IsEntryOf word (kind_of word)
entry-of word kind is entry = subst (IsEntryOf word) (sym is) entry

-- what the new word is
pub record IsLeafStore (old new : ℕ) : Type 0 where
  pub was : pointed (Some old) ≡ None
  pub now : pointed (Some new) ≡ None
  pub entry : IsEntryOf new (kind_of new)

pub record IsPointerStore (l : Layout) (h : ℕ) (holders : Holders) (level old new : ℕ) : Type 0 where
  pub was : old ≡ 0
  pub frame : ℕ
  pub room : Unused l h holders frame
  pub now : pointed (Some new) ≡ Some frame
  pub entry : IsEntryOf new (kind_of new)
  pub high : 0 < level

leaf-ppn-same : (word q ppn : ℕ) (f flags : PteFlags) → kind_of word ≡ kinds.Leaf q f → kind_of word ≡ kinds.Leaf ppn flags → q ≡ ppn
leaf-ppn-same word q ppn f flags is kind = let both : kinds.Leaf q f ≡ kinds.Leaf ppn flags = sym is ∙ kind in cc

plain-by : (place : Place) (new : ℕ) → is_global new ≡ is_kernel place → (s : ℕ) → place ≡ Space s → is_global new ≡ false
plain-by place new e s is = e ∙ ap is_kernel is

module _ (l : Layout) (fits : IsLayout l) (h : ℕ) (holders : Holders) (level old : ℕ) where
  -- the new word is as a place's words are
  pub plain-written : (wish : Wish) (new : ℕ) → Writes (unused_spare l holders h) level old wish new → (s : ℕ) → place_of wish ≡ Space s → is_global new ≡ false
  plain-written wish new (adds_table place page ppn flags frame above zero-word spare) =
      plain-by place _ (global-table frame (is_kernel place) (fresh-range l fits h holders frame (fresh-of l h holders frame spare)))
  plain-written wish new (adds_leaf place page ppn flags at zero-word ok fit aligned) =
      plain-by place _ (global-stored ppn flags fit ok.byte ok.leaf ∙ global-flags place flags ok.global)
  plain-written wish new (removes_leaf place page q f at is) = λ s e. is_global-zero
  plain-written wish new (changes_leaf place page flags q f at is ok) =
      plain-by place _ (global-stored q flags (leaf-ppn old q f is) ok.byte ok.leaf ∙ global-flags place flags ok.global)

  -- a new leaf is aligned, where an old one is
  pub aligned-written : (wish : Wish) (new : ℕ) → Writes (unused_spare l holders h) level old wish new
      → ((q : ℕ) (f : PteFlags) → kind_of old ≡ kinds.Leaf q f → q % level_pages level ≡ 0)
      → (ppn : ℕ) (flags : PteFlags) → kind_of new ≡ kinds.Leaf ppn flags → ppn % level_pages level ≡ 0
  aligned-written wish new (adds_table place page p fl frame above zero-word spare) before ppn flags kind =
      absurd (let bad : kinds.Table frame (is_kernel place) ≡ kinds.Leaf ppn flags =
      sym (kind-table frame (is_kernel place) (fresh-range l fits h holders frame (fresh-of l h holders frame spare))) ∙ kind
      in cc)
  aligned-written wish new (adds_leaf place page p fl at zero-word ok fit aligned) before ppn flags kind =
      ap (λ q. q % level_pages level) (sym (leaf-ppn-same new p ppn (seven fl) flags (kind-stored p fl fit ok.byte ok.leaf) kind))
      ∙ ap (λ k. p % level_pages k) at ∙ aligned
  aligned-written wish new (removes_leaf place page q f at is) before ppn flags kind = absurd (zero-leaf 0 ppn flags refl kind)
  aligned-written wish new (changes_leaf place page fl q f at is ok) before ppn flags kind =
      ap (λ p. p % level_pages level) (sym (leaf-ppn-same new q ppn (seven fl) flags (kind-stored q fl (leaf-ppn old q f is) ok.byte ok.leaf) kind))
      ∙ before q f is

  pub leaf-or-pointer : (wish : Wish) (new : ℕ) → Writes (unused_spare l holders h) level old wish new → IsLeafStore old new ⊎ IsPointerStore l h holders level old new
  leaf-or-pointer wish new (adds_table place page ppn flags frame above zero-word spare) =
      let fresh = fresh-of l h holders frame spare in
      let fit = fresh-range l fits h holders frame fresh in
      inr (record {
        was = zero-word;
        frame = frame;
        room = fresh;
        now = pointed-table frame (is_kernel place) fit;
        entry = entry-of _ (kinds.Table frame (is_kernel place)) (kind-table frame (is_kernel place) fit) tt;
        high = omega arith;
      })
  leaf-or-pointer wish new (adds_leaf place page ppn flags at zero-word ok fit aligned) =
      let kind = kind-stored ppn flags fit ok.byte ok.leaf in
      inl (record {
        was = ap (λ w. pointed (Some w)) zero-word ∙ pointed-zero;
        now = ap pointed_kind kind;
        entry = entry-of _ (kinds.Leaf ppn (seven flags)) kind tt;
      })
  leaf-or-pointer wish new (removes_leaf place page q f at is) =
      inl (record { was = ap pointed_kind is; now = pointed-zero; entry = entry-of 0 kinds.Invalid kind-zero refl })
  leaf-or-pointer wish new (changes_leaf place page flags q f at is ok) =
      let kind = kind-stored q flags (leaf-ppn old q f is) ok.byte ok.leaf in
      inl (record { was = ap pointed_kind is; now = ap pointed_kind kind; entry = entry-of _ (kinds.Leaf q (seven flags)) kind tt })

module _ (l : Layout) (fits : IsLayout l) (words : Tables) (holders : Holders) (tree : IsTree l words holders) (wish : Wish) (has : HasPlace l (place_of wish))
    (store : Store) (acc : Accepted l words (unused_spare l holders (home_of l (place_of wish))) (home_of l (place_of wish)) wish store) where
  pub there : On l (home_of l (place_of wish)) holders (place_of wish) (page_of wish).base acc.depth store.ppn
  there = on l fits words _ _ (tree _ (home-there l fits words holders tree (place_of wish) has)) (place_of wish) (page_of wish).base acc.depth store.ppn has refl acc.within acc.on

  -- a path of the same home that reaches the word is the page's
  pub reaches : (place : Place) (va n : ℕ) → HasPlace l place → home_of l place ≡ home_of l (place_of wish) → IsIn l place va → table_on l words place va n ≡ Some store.ppn
      → SamePath l place (place_of wish) va (page_of wish).base n acc.depth
  reaches place va n has' at within e =
      same-path l fits words _ _ (tree _ (home-there l fits words holders tree (place_of wish) has)) place (place_of wish) va (page_of wish).base n acc.depth store.ppn has' has at refl within acc.within e acc.on

  pub is-place : pointed (Some acc.old) ≡ None → IsEntryOf store.word (kind_of store.word) → IsPlace l words (home_of l (place_of wish)) holders (place_of wish) store.ppn store.index store.word
  is-place was entry = record {
    at = there.home;
    own = subst (IsOwn l store.ppn) (sym acc.index) there.own;
    has = has;
    home = refl;
    of = of-place l fits words _ _ (tree _ (home-there l fits words holders tree (place_of wish) has)) (place_of wish) (page_of wish).base acc.depth store.ppn has acc.within there;
    old = ap pointed acc.word ∙ was;
    entry = entry;
    plain = λ s va n has' at within deep e i.
        let same = reaches (Space s) va n has' at within e in
        plain-written l fits _ _ _ _ wish store.word acc.writes s (sym same.same_place);
    aligned = λ place va n ppn flags has' home within deep e i kind.
        let same = reaches place va n has' home within e in
        let level : start_level l place - n ≡ start_level l (place_of wish) - acc.depth =
        ap (λ p. start_level l p - n) same.same_place ∙ ap (λ m. start_level l (place_of wish) - m) same.same_depth
        in
        ap (λ k. ppn % level_pages k) level
        ∙ aligned-written l fits _ _ _ _ wish store.word acc.writes
        (λ q f is. (tree _ (home-there l fits words holders tree (place_of wish) has)).aligned (place_of wish) (page_of wish).base acc.depth store.ppn acc.old q f has refl acc.within acc.deep acc.on
        (ap (words store.ppn) (sym acc.index) ∙ acc.word) is)
        ppn flags kind;
  }

  pub high : 0 < start_level l (place_of wish) - acc.depth → (place : Place) (va n : ℕ) → HasPlace l place → home_of l place ≡ home_of l (place_of wish) → IsIn l place va
      → table_on l words place va n ≡ Some store.ppn → vpn_of va (start_level l place - n) ≡ store.index → n < start_level l place
  high above place va n has' at within e i =
      let same = reaches place va n has' at within e in
      let levels : start_level l place ≡ start_level l (place_of wish) = ap (start_level l) same.same_place in
      omega (arith, same.same_depth)

  -- the holders, by what is stored
  holders-leaf : pointed (Some store.word) ≡ None → holders_after holders (place_of wish) store ≡ holders
  holders-leaf e = ap (λ o. λ ppn. cond (points_at o ppn) (Some (place_of wish)) (holders ppn)) e

  holders-pointer : (p : ℕ) → pointed (Some store.word) ≡ Some p → holders_after holders (place_of wish) store ≡ (λ ppn. cond (p == ppn) (Some (place_of wish)) (holders ppn))
  holders-pointer p e = ap (λ o. λ ppn. cond (points_at o ppn) (Some (place_of wish)) (holders ppn)) e

  pub keeps-home : IsHome l (words_after_store words store) (home_of l (place_of wish)) (holders_after holders (place_of wish) store)
  keeps-home =
      let at = tree _ (home-there l fits words holders tree (place_of wish) has) in
      elim (leaf-or-pointer l fits _ _ _ acc.old wish store.word acc.writes) [
        | inl leaf ↦
            subst (IsHome l (words_after_store words store) (home_of l (place_of wish))) (sym (holders-leaf leaf.now))
            (home-leaf l fits words _ _ at (place_of wish) store.ppn store.index store.word (is-place leaf.was leaf.entry) leaf.now)
        | inr p ↦
            subst (IsHome l (words_after_store words store) (home_of l (place_of wish))) (sym (holders-pointer _ p.now))
            (home-pointer l fits words _ _ at (place_of wish) store.ppn store.index store.word (is-place (ap (λ w. pointed (Some w)) p.was ∙ pointed-zero) p.entry) p.frame p.room p.now (high p.high))
      ]

  -- a spare frame of another home keeps its holder
  other-kept : (h n : ℕ) → (h ≡ home_of l (place_of wish) → ⊥) → n < slice_index l.spares h → holders_after holders (place_of wish) store (spare_ppn l h + n) ≡ holders (spare_ppn l h + n)
  other-kept h n apart less = elim (leaf-or-pointer l fits _ _ _ acc.old wish store.word acc.writes) [
    | inl leaf ↦ ap (λ f. f (spare_ppn l h + n)) (holders-leaf leaf.now)
    | inr p ↦
        let differ : eqb p.frame (spare_ppn l h + n) ≡ false =
        ne_eqb p.frame (spare_ppn l h + n) (λ is. apart (home-unique l h _ (spare_ppn l h + n) (of_spare n less refl) (subst (IsAtHome l (home_of l (place_of wish))) is (of_spare p.room.number p.room.below p.room.is))))
        in
        ap (λ f. f (spare_ppn l h + n)) (holders-pointer _ p.now) ∙ ap (λ t. cond t (Some (place_of wish)) (holders (spare_ppn l h + n))) differ
  ]

  other-fewer : (h f : ℕ) (place : Place) → (h ≡ home_of l (place_of wish) → ⊥) → home_of l place ≡ h → holders_after holders (place_of wish) store f ≡ Some place → holders f ≡ Some place
  other-fewer h f place apart home e = by_test (points_at (pointed (Some store.word)) f) e
    where
      by_test : (t : Bool) → cond t (Some (place_of wish)) (holders f) ≡ Some place → holders f ≡ Some place
      by_test true e = let same : place_of wish ≡ place = cc in absurd (apart (sym home ∙ ap (home_of l) (sym same)))
      by_test false e = e

  pub keeps-tree : IsTree l (words_after_store words store) (holders_after holders (place_of wish) store)
  keeps-tree h less = elim (cases_eq h (home_of l (place_of wish))) [
    | inl same ↦ subst (λ k. IsHome l (words_after_store words store) k (holders_after holders (place_of wish) store)) (sym same) keeps-home
    | inr apart ↦
        home-same l fits words (words_after_store words store) h holders (holders_after holders (place_of wish) store) (tree h less)
        (λ f i home'. stored-there words store.ppn store.index store.word f i
        (λ is _. absurd (apart (home-unique l h _ f home' (subst (IsAtHome l (home_of l (place_of wish))) is there.home)))))
        (λ n below. other-kept h n apart below)
        (λ f place home e. other-fewer h f place apart home e)
  ]
