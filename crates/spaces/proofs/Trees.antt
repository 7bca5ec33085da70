-- Stores keep the tree.
use Rattle.std.proofs.Common.{◌≡◌, ℕ, zero, suc, ◌+◌, ◌-◌, ◌%◌, ◌<◌, ◌≤◌, ◌⊎◌, Bool, true, false, cond, eqb, Some, None, length, ap, sym, ◌∙◌, subst, refl, inl, inr, arith, IsSome}
use Rattle.std.specs.Prelude.{slice_index}
use Rattle.std.proofs.lemmas.Bool.{eq-eqb, eqb-true, ne_eqb}
use Rattle.std.proofs.lemmas.Bool.Decides.{nat_tests}
use Rattle.pte.specs.declared.flags.PteFlags.{PteFlags}
use Rattle.pte.specs.declared.entry.Kind.TheVariants as kinds
use Rattle.pte.specs.Address.{level_pages, top_level, vpn_of}
use Rattle.pte.specs.declared.address.TheConstants.{TABLE_LENGTH}
use Rattle.pte.specs.Entry.{kind_of, is_global, table_word}
use Rattle.walk.specs.Leads.{Tables, word_at}
use Rattle.spaces.specs.declared.places.Place.{Place}
use Rattle.spaces.specs.declared.places.Place.TheVariants.{Space, Kernel}
use Rattle.spaces.specs.Layout.{Layout, HasPlace, home_of, is_root, root_ppn, window_ppn, spare_ppn, user_slots, first_window_slot}
use Rattle.spaces.specs.Held.{IsLayout}
use Rattle.spaces.specs.Tree.{start_level, start_table, IsIn, table_on, IsAtHome, of_root, of_spare, IsSpareFor, IsTableOf, IsStep, IsOwn, IsEntryOf, IsHome}
use Rattle.spaces.specs.Holders.{Holders}
use Rattle.walk.specs.Pointers.{pointed, pointed_kind}
use Rattle.walk.specs.Stores.{stored}
use Rattle.spaces.proofs.Paths.{above, below, on, some-same, table_below-like, vpn-below}
use Rattle.spaces.proofs.Stored.{is-word, stored-here, stored-there, pointed-stored}

pub kind-zero : kind_of 0 ≡ kinds.Invalid
unfolding kind_of
kind-zero = refl

pub pointed-zero : pointed (Some 0) ≡ None
pointed-zero = ap pointed_kind kind-zero

pub is_global-zero : is_global 0 ≡ false
is_global-zero = refl

-- an empty word is no leaf
pub zero-leaf : (word ppn : ℕ) (flags : PteFlags) → word ≡ 0 → kind_of word ≡ kinds.Leaf ppn flags → ⊥
zero-leaf word ppn flags nothing kind = let bad : kinds.Leaf ppn flags ≡ kinds.Invalid = sym kind ∙ ap kind_of nothing ∙ kind-zero in cc

pub root-is : (l : Layout) (s : ℕ) → s < length l.homes → is_root l (root_ppn l s) ≡ true
root-is l s less = grind (arith, nat_tests)

-- words that agree at a home lead alike there
module _ (l : Layout) (fits : IsLayout l) (words words' : Tables) (h : ℕ) (holders : Holders) (tree : IsHome l words h holders) (same : (f i : ℕ) → IsAtHome l h f → words' f i ≡ words f i) where
  pub back : (place : Place) (va n t : ℕ) → HasPlace l place → home_of l place ≡ h → IsIn l place va → table_on l words' place va n ≡ Some t → table_on l words place va n ≡ Some t
  back place va zero t has home within e = e
  back place va (suc n) t has home within e =
      let up = above words' va (start_level l place) (start_table l place va) n t e in
      let old = back place va n up.table_above has home within up.on in
      let there = on l fits words h holders tree place va n up.table_above has home within old in
      below words va (start_level l place) (start_table l place va) n up.table_above old ∙ ap pointed (sym (same _ _ there.home)) ∙ up.points

-- words that agree at a home keep it, and so do holders that agree on its spare frames
module _ (l : Layout) (fits : IsLayout l) (words words' : Tables) (h : ℕ) (holders holders' : Holders) (tree : IsHome l words h holders)
    (same : (f i : ℕ) → IsAtHome l h f → words' f i ≡ words f i) (kept : (n : ℕ) → n < slice_index l.spares h → holders' (spare_ppn l h + n) ≡ holders (spare_ppn l h + n))
    (fewer : (f : ℕ) (place : Place) → home_of l place ≡ h → holders' f ≡ Some place → holders f ≡ Some place) where
  for-place : (place : Place) (f : ℕ) → IsSpareFor l h holders place f → IsSpareFor l h holders' place f
  for-place place f u = record { number = u.number; below = u.below; is = u.is; held = ap holders' u.is ∙ kept u.number u.below ∙ ap holders (sym u.is) ∙ u.held }

  table-of : (place : Place) (f : ℕ) → IsTableOf l h holders place f → IsTableOf l h holders' place f
  table-of place f t = elim t [ inl top ↦ inl top | inr u ↦ inr (for-place place f u) ]

  pub home-same : IsHome l words' h holders'
  home-same = record {
    held = λ f place e home. tree.held f place (fewer f place home e) home;
    present = λ f i home less. subst IsSome (sym (same f i home)) (tree.present f i home less);
    entries = λ f i word home e. tree.entries f i word home (sym (same f i home) ∙ e);
    window = λ s k has home less. same _ _ (of_root s has home refl) ∙ tree.window s k has home less;
    upper = λ s i has home from to. same _ _ (of_root s has home refl) ∙ tree.upper s i has home from to;
    closed = λ f i g home own e.
        let step = tree.closed f i g home own (ap pointed (sym (same f i home)) ∙ e) in
        record { place = step.place; has = step.has; home = step.home; from = table-of step.place f step.from; to = for-place step.place g step.to };
    once = λ f i f' i' g home home' own own' e e'. tree.once f i f' i' g home home' own own' (ap pointed (sym (same f i home)) ∙ e) (ap pointed (sym (same f' i' home')) ∙ e');
    unused = λ n i none to less. same _ _ (of_spare n to refl) ∙ tree.unused n i (sym (kept n to) ∙ none) to less;
    bottom = λ place va t has home within e.
        let old = back l fits words words' h holders tree same place va (start_level l place) t has home within e in
        let there = on l fits words h holders tree place va (start_level l place) t has home within old in
        ap pointed (same _ _ there.home) ∙ tree.bottom place va t has home within old;
    plain = λ s va n t word has home within deep e w.
        let old = back l fits words words' h holders tree same (Space s) va n t has home within e in
        let there = on l fits words h holders tree (Space s) va n t has home within old in
        tree.plain s va n t word has home within deep old (sym (same _ _ there.home) ∙ w);
    aligned = λ place va n t word ppn flags has home within deep e w kind.
        let old = back l fits words words' h holders tree same place va n t has home within e in
        let there = on l fits words h holders tree place va n t has home within old in
        tree.aligned place va n t word ppn flags has home within deep old (sym (same _ _ there.home) ∙ w) kind;
  }

-- a slot of a root's upper half is not written
upper-apart : (l : Layout) (f i s j : ℕ) → s < length l.homes → IsOwn l f i → user_slots ≤ j → f ≡ root_ppn l s → i ≡ j → ⊥
upper-apart l f i s j has own from is at = let low : i < user_slots = own (ap (is_root l) is ∙ root-is l s has) in omega arith

-- what both kinds of store know of the word that is written: where it stands, and that it is no
-- empty table's
pub record IsPlace (l : Layout) (words : Tables) (h : ℕ) (holders : Holders) (place : Place) (f i x : ℕ) : Type 0 where
  pub at : IsAtHome l h f
  pub own : IsOwn l f i
  pub has : HasPlace l place
  pub home : home_of l place ≡ h
  pub of : IsTableOf l h holders place f
  pub old : pointed (words f i) ≡ None
  pub entry : IsEntryOf x (kind_of x)
  pub plain : (s va n : ℕ) → s < length l.homes → slice_index l.homes s ≡ h → IsIn l (Space s) va → n ≤ top_level l.scheme
      → table_on l words (Space s) va n ≡ Some f → vpn_of va (top_level l.scheme - n) ≡ i → is_global x ≡ false
  pub aligned : (other : Place) (va n ppn : ℕ) (flags : PteFlags) → HasPlace l other → home_of l other ≡ h → IsIn l other va → n ≤ start_level l other
      → table_on l words other va n ≡ Some f → vpn_of va (start_level l other - n) ≡ i → kind_of x ≡ kinds.Leaf ppn flags → ppn % level_pages (start_level l other - n) ≡ 0

-- an unused spare frame
pub record Unused (l : Layout) (h : ℕ) (holders : Holders) (frame : ℕ) : Type 0 where
  pub number : ℕ
  pub below : number < slice_index l.spares h
  pub is : frame ≡ spare_ppn l h + number
  pub none : holders frame ≡ None

-- no table of a place
pub unused-apart : (l : Layout) (fits : IsLayout l) (h : ℕ) (holders : Holders) (place : Place) (f : ℕ) → HasPlace l place → IsTableOf l h holders place f → Unused l h holders f → ⊥
unused-apart l fits h holders (Space s) f has (inl top) u = omega (arith, top, u.is)
unused-apart l fits h holders Kernel f has (inl top) u = omega (arith, top.1, top.2, u.is)
unused-apart l fits h holders place f has (inr spare) u = let bad : None ≡ Some place = sym u.none ∙ spare.held in cc

module _ (l : Layout) (fits : IsLayout l) (words : Tables) (h : ℕ) (holders : Holders) (tree : IsHome l words h holders) (owner : Place) (f i x : ℕ)
    (here : IsPlace l words h holders owner f i x) where
  present-stored : (g j : ℕ) → IsAtHome l h g → j < TABLE_LENGTH → IsSome (stored words f i x g j)
  present-stored g j home less = elim (is-word f i g j) [
    | inl same ↦ subst IsSome (sym (stored-here words f i x g j same.0 same.1)) refl
    | inr apart ↦ subst IsSome (sym (stored-there words f i x g j apart)) (tree.present g j home less)
  ]

  entries-stored : (g j word : ℕ) → IsAtHome l h g → stored words f i x g j ≡ Some word → IsEntryOf word (kind_of word)
  entries-stored g j word home e = elim (is-word f i g j) [
    | inl same ↦ let is : x ≡ word = let e' = sym (stored-here words f i x g j same.0 same.1) ∙ e in cc in subst (λ w. IsEntryOf w (kind_of w)) is here.entry
    | inr apart ↦ tree.entries g j word home (sym (stored-there words f i x g j apart) ∙ e)
  ]

  window-stored : (s k : ℕ) → s < length l.homes → slice_index l.homes s ≡ h → k < l.window
      → stored words f i x (root_ppn l s) (first_window_slot l + k) ≡ Some (table_word (window_ppn l k) true)
  window-stored s k has home less =
      stored-there words f i x _ _ (upper-apart l f i s _ has here.own (omega (arith, fits.window))) ∙ tree.window s k has home less

  upper-stored : (s j : ℕ) → s < length l.homes → slice_index l.homes s ≡ h → user_slots ≤ j → j < first_window_slot l → stored words f i x (root_ppn l s) j ≡ Some 0
  upper-stored s j has home from to = stored-there words f i x _ _ (upper-apart l f i s _ has here.own from) ∙ tree.upper s j has home from to

  unused-stored : (n j : ℕ) → holders (spare_ppn l h + n) ≡ None → n < slice_index l.spares h → j < TABLE_LENGTH → stored words f i x (spare_ppn l h + n) j ≡ Some 0
  unused-stored n j none to less =
      stored-there words f i x _ _ (λ is _. unused-apart l fits h holders owner f here.has here.of (record { number = n; below = to; is = is; none = ap holders is ∙ none }))
      ∙ tree.unused n j none to less

  aligned-stored : (place : Place) (va n t word ppn : ℕ) (flags : PteFlags) → HasPlace l place → home_of l place ≡ h → IsIn l place va → n ≤ start_level l place
      → table_on l words place va n ≡ Some t → word_at (stored words f i x) va (start_level l place - n) t ≡ Some word → kind_of word ≡ kinds.Leaf ppn flags
      → ppn % level_pages (start_level l place - n) ≡ 0
  aligned-stored place va n t word ppn flags has home within deep e w kind = elim (is-word f i t (vpn_of va (start_level l place - n))) [
    | inl same ↦
        let is : x ≡ word = some-same _ _ (sym (stored-here words f i x t _ same.0 same.1) ∙ w) in
        here.aligned place va n ppn flags has home within deep (e ∙ ap Some (sym same.0)) (sym same.1) (ap kind_of is ∙ kind)
    | inr apart ↦ tree.aligned place va n t word ppn flags has home within deep e (sym (stored-there words f i x t _ apart) ∙ w) kind
  ]

  -- a store of what points nowhere
  module _ (new : pointed (Some x) ≡ None) where
    like : (g j : ℕ) → pointed (stored words f i x g j) ≡ pointed (words g j)
    like = pointed-stored words f i x (new ∙ sym here.old)

    pub table_on-leaf : (place : Place) (va n : ℕ) → table_on l (stored words f i x) place va n ≡ table_on l words place va n
    table_on-leaf place va n = table_below-like words (stored words f i x) va (start_level l place) (start_table l place va) n like

    plain-leaf : (s va n t word : ℕ) → s < length l.homes → slice_index l.homes s ≡ h → IsIn l (Space s) va → n ≤ top_level l.scheme
        → table_on l words (Space s) va n ≡ Some t → word_at (stored words f i x) va (top_level l.scheme - n) t ≡ Some word → is_global word ≡ false
    plain-leaf s va n t word has home within deep e w = elim (is-word f i t (vpn_of va (top_level l.scheme - n))) [
      | inl same ↦
          let is : x ≡ word = let e' = sym (stored-here words f i x t _ same.0 same.1) ∙ w in cc in
          ap is_global (sym is) ∙ here.plain s va n has home within deep (e ∙ ap Some (sym same.0)) (sym same.1)
      | inr apart ↦ tree.plain s va n t word has home within deep e (sym (stored-there words f i x t _ apart) ∙ w)
    ]

    pub home-leaf : IsHome l (stored words f i x) h holders
    home-leaf = record {
      held = tree.held;
      present = present-stored;
      entries = entries-stored;
      window = window-stored;
      upper = upper-stored;
      closed = λ g j p home own e. tree.closed g j p home own (sym (like g j) ∙ e);
      once = λ g j g' j' p home home' own own' e e'. tree.once g j g' j' p home home' own own' (sym (like g j) ∙ e) (sym (like g' j') ∙ e');
      unused = unused-stored;
      bottom = λ place va t has home within e. like t _ ∙ tree.bottom place va t has home within (sym (table_on-leaf place va (start_level l place)) ∙ e);
      plain = λ s va n t word has home within deep e w. plain-leaf s va n t word has home within deep (sym (table_on-leaf (Space s) va n) ∙ e) w;
      aligned = λ place va n t word ppn flags has home within deep e w kind. aligned-stored place va n t word ppn flags has home within deep (sym (table_on-leaf place va n) ∙ e) w kind;
    }

  -- a store of a pointer to an unused spare frame, above the lowest level
  module _ (frame : ℕ) (room : Unused l h holders frame) (new : pointed (Some x) ≡ Some frame)
      (high : (place : Place) (va n : ℕ) → HasPlace l place → home_of l place ≡ h → IsIn l place va → table_on l words place va n ≡ Some f
      → vpn_of va (start_level l place - n) ≡ i → n < start_level l place) where
    pub fresh-empty : (j : ℕ) → j < TABLE_LENGTH → stored words f i x frame j ≡ Some 0
    fresh-empty j less = ap (λ g. stored words f i x g j) room.is ∙ unused-stored room.number j (ap holders (sym room.is) ∙ room.none) room.below less

    fresh-points : (j g : ℕ) → j < TABLE_LENGTH → pointed (stored words f i x frame j) ≡ Some g → ⊥
    fresh-points j g less e = let no-table : None ≡ Some g = sym pointed-zero ∙ ap pointed (sym (fresh-empty j less)) ∙ e in cc

    -- what a path reaches it reached before, or it is the new table
    pub table_on-pointer : (place : Place) (va n t : ℕ) → table_on l (stored words f i x) place va n ≡ Some t → (table_on l words place va n ≡ Some t) ⊎ (t ≡ frame)
    table_on-pointer place va zero t e = inl e
    table_on-pointer place va (suc n) t e =
        let up = above (stored words f i x) va (start_level l place) (start_table l place va) n t e in
        elim (table_on-pointer place va n up.table_above up.on) [
          | inr new-table ↦
              absurd (fresh-points (vpn_of va (start_level l place - n)) t (vpn-below va (start_level l place - n))
              (subst (λ g. pointed (stored words f i x g (vpn_of va (start_level l place - n))) ≡ Some t) new-table up.points))
          | inl old ↦ elim (is-word f i up.table_above (vpn_of va (start_level l place - n))) [
            | inl same ↦
                inr (let is : Some frame ≡ Some t = sym new ∙ ap pointed (sym (stored-here words f i x _ _ same.0 same.1)) ∙ up.points in sym (some-same _ _ is))
            | inr apart ↦
                inl (below words va (start_level l place) (start_table l place va) n up.table_above old ∙ ap pointed (sym (stored-there words f i x _ _ apart)) ∙ up.points)
          ]
        ]

    -- what a path reached it still reaches
    pub table_on-kept : (place : Place) (va n t : ℕ) → table_on l words place va n ≡ Some t → table_on l (stored words f i x) place va n ≡ Some t
    table_on-kept place va zero t e = e
    table_on-kept place va (suc n) t e =
        let up = above words va (start_level l place) (start_table l place va) n t e in
        let now = table_on-kept place va n up.table_above up.on in
        elim (is-word f i up.table_above (vpn_of va (start_level l place - n))) [
          | inl same ↦
              let no-table : None ≡ Some t = sym here.old ∙ ap (λ g. pointed (words g i)) same.0 ∙ ap (λ j. pointed (words up.table_above j)) same.1 ∙ up.points in absurd cc
          | inr apart ↦
              below (stored words f i x) va (start_level l place) (start_table l place va) n up.table_above now ∙ ap pointed (stored-there words f i x _ _ apart) ∙ up.points
        ]

    bottom-pointer : (place : Place) (va t : ℕ) → HasPlace l place → home_of l place ≡ h → IsIn l place va
        → table_on l (stored words f i x) place va (start_level l place) ≡ Some t → pointed (word_at (stored words f i x) va 0 t) ≡ None
    bottom-pointer place va t has home within e =
        elim (table_on-pointer place va (start_level l place) t e) [
          | inr new-table ↦ ap (λ g. pointed (stored words f i x g (vpn_of va 0))) new-table ∙ ap pointed (fresh-empty (vpn_of va 0) (vpn-below va 0)) ∙ pointed-zero
          | inl old ↦ elim (is-word f i t (vpn_of va 0)) [
            | inl same ↦
                let zero-level : start_level l place - start_level l place ≡ 0 = omega arith in
                absurd (omega (arith, high place va (start_level l place) has home within (old ∙ ap Some (sym same.0)) (ap (vpn_of va) zero-level ∙ sym same.1)))
            | inr apart ↦ ap pointed (stored-there words f i x _ _ apart) ∙ tree.bottom place va t has home within old
          ]
        ]

    plain-pointer : (s va n t word : ℕ) → s < length l.homes → slice_index l.homes s ≡ h → IsIn l (Space s) va → n ≤ top_level l.scheme
        → table_on l (stored words f i x) (Space s) va n ≡ Some t → word_at (stored words f i x) va (top_level l.scheme - n) t ≡ Some word → is_global word ≡ false
    plain-pointer s va n t word has home within deep e w =
        elim (table_on-pointer (Space s) va n t e) [
          | inr new-table ↦
              let empty : Some 0 ≡ Some word = sym (fresh-empty (vpn_of va (top_level l.scheme - n)) (vpn-below va (top_level l.scheme - n))) ∙ ap (λ g. stored words f i x g (vpn_of va (top_level l.scheme - n))) (sym new-table) ∙ w in
              ap is_global (sym (some-same _ _ empty)) ∙ is_global-zero
          | inl old ↦ elim (is-word f i t (vpn_of va (top_level l.scheme - n))) [
            | inl same ↦
                let is : x ≡ word = some-same _ _ (sym (stored-here words f i x t _ same.0 same.1) ∙ w) in
                ap is_global (sym is) ∙ here.plain s va n has home within deep (old ∙ ap Some (sym same.0)) (sym same.1)
            | inr apart ↦ tree.plain s va n t word has home within deep old (sym (stored-there words f i x t _ apart) ∙ w)
          ]
        ]

    aligned-pointer : (place : Place) (va n t word ppn : ℕ) (flags : PteFlags) → HasPlace l place → home_of l place ≡ h → IsIn l place va → n ≤ start_level l place
        → table_on l (stored words f i x) place va n ≡ Some t → word_at (stored words f i x) va (start_level l place - n) t ≡ Some word → kind_of word ≡ kinds.Leaf ppn flags
        → ppn % level_pages (start_level l place - n) ≡ 0
    aligned-pointer place va n t word ppn flags has home within deep e w kind =
        elim (table_on-pointer place va n t e) [
          | inr new-table ↦
              let empty : Some 0 ≡ Some word = sym (fresh-empty (vpn_of va (start_level l place - n)) (vpn-below va (start_level l place - n))) ∙ ap (λ g. stored words f i x g (vpn_of va (start_level l place - n))) (sym new-table) ∙ w in
              absurd (zero-leaf word ppn flags (sym (some-same _ _ empty)) kind)
          | inl old ↦ aligned-stored place va n t word ppn flags has home within deep old w kind
        ]

    -- with the new table in use for the place
    abbrev pub new-holders : Holders
    new-holders g = cond (eqb frame g) (Some owner) (holders g)

    new-held : (g : ℕ) (place : Place) → holders g ≡ Some place → new-holders g ≡ Some place
    new-held g place e =
        let apart : eqb frame g ≡ false = ne_eqb frame g (λ is. let bad : None ≡ Some place = sym room.none ∙ ap holders is ∙ e in cc) in
        ap (λ t. cond t (Some owner) (holders g)) apart ∙ e

    new-for : (place : Place) (g : ℕ) → IsSpareFor l h holders place g → IsSpareFor l h new-holders place g
    new-for place g u = record { number = u.number; below = u.below; is = u.is; held = new-held g place u.held }

    new-of : (place : Place) (g : ℕ) → IsTableOf l h holders place g → IsTableOf l h new-holders place g
    new-of place g t = elim t [ inl top ↦ inl top | inr u ↦ inr (new-for place g u) ]

    new-cases : (g : ℕ) (place : Place) → new-holders g ≡ Some place → ((frame ≡ g) × (owner ≡ place)) ⊎ (holders g ≡ Some place)
    new-cases g place e = by_test (eqb frame g) refl e
      where
        by_test : (t : Bool) → eqb frame g ≡ t → cond t (Some owner) (holders g) ≡ Some place → ((frame ≡ g) × (owner ≡ place)) ⊎ (holders g ≡ Some place)
        by_test true t e = inl (eqb-true frame g t, let same : owner ≡ place = cc in same)
        by_test false t e = inr e

    new-none : (g : ℕ) → new-holders g ≡ None → holders g ≡ None
    new-none g e = by_test (eqb frame g) e
      where
        by_test : (t : Bool) → cond t (Some owner) (holders g) ≡ None → holders g ≡ None
        by_test true e = absurd cc
        by_test false e = e

    closed-pointer : (g j p : ℕ) → IsAtHome l h g → IsOwn l g j → pointed (stored words f i x g j) ≡ Some p → IsStep l h new-holders g p
    closed-pointer g j p home own e = elim (is-word f i g j) [
      | inl same ↦
          let is : Some frame ≡ Some p = sym new ∙ ap pointed (sym (stored-here words f i x g j same.0 same.1)) ∙ e in
          let at : frame ≡ p = some-same _ _ is in
          record {
            place = owner;
            has = here.has;
            home = here.home;
            from = new-of owner g (subst (IsTableOf l h holders owner) same.0 here.of);
            to = record {
              number = room.number;
              below = room.below;
              is = sym at ∙ room.is;
              held = ap new-holders (sym at) ∙ ap (λ t. cond t (Some owner) (holders frame)) (eq-eqb frame frame refl);
            };
          }
      | inr apart ↦
          let step = tree.closed g j p home own (ap pointed (sym (stored-there words f i x g j apart)) ∙ e) in
          record { place = step.place; has = step.has; home = step.home; from = new-of step.place g step.from; to = new-for step.place p step.to }
    ]

    -- no old pointer leads to the new table
    fresh-old : (g j : ℕ) → IsAtHome l h g → IsOwn l g j → pointed (words g j) ≡ Some frame → ⊥
    fresh-old g j home own e = let step = tree.closed g j _ home own e in let bad : None ≡ Some step.place = sym room.none ∙ step.to.held in cc

    once-pointer : (g j g' j' p : ℕ) → IsAtHome l h g → IsAtHome l h g' → IsOwn l g j → IsOwn l g' j'
        → pointed (stored words f i x g j) ≡ Some p → pointed (stored words f i x g' j') ≡ Some p → (g ≡ g') × (j ≡ j')
    once-pointer g j g' j' p home home' own own' e e' = elim (is-word f i g j) [
      | inl same ↦ elim (is-word f i g' j') [
        | inl same' ↦ (sym same.0 ∙ same'.0, sym same.1 ∙ same'.1)
        | inr apart' ↦
            let is : Some frame ≡ Some p = sym new ∙ ap pointed (sym (stored-here words f i x g j same.0 same.1)) ∙ e in
            absurd (fresh-old g' j' home' own' (ap pointed (sym (stored-there words f i x g' j' apart')) ∙ e' ∙ sym is))
      ]
      | inr apart ↦ elim (is-word f i g' j') [
        | inl same' ↦
            let is : Some frame ≡ Some p = sym new ∙ ap pointed (sym (stored-here words f i x g' j' same'.0 same'.1)) ∙ e' in
            absurd (fresh-old g j home own (ap pointed (sym (stored-there words f i x g j apart)) ∙ e ∙ sym is))
        | inr apart' ↦
            tree.once g j g' j' p home home' own own' (ap pointed (sym (stored-there words f i x g j apart)) ∙ e) (ap pointed (sym (stored-there words f i x g' j' apart')) ∙ e')
      ]
    ]

    pub home-pointer : IsHome l (stored words f i x) h new-holders
    home-pointer = record {
      held = λ g place e home. elim (new-cases g place e) [ inl n ↦ (room.number, room.below, sym n.0 ∙ room.is) | inr old ↦ tree.held g place old home ];
      present = present-stored;
      entries = entries-stored;
      window = window-stored;
      upper = upper-stored;
      closed = closed-pointer;
      once = once-pointer;
      unused = λ n j none to less. unused-stored n j (new-none _ none) to less;
      bottom = bottom-pointer;
      plain = plain-pointer;
      aligned = aligned-pointer;
    }
