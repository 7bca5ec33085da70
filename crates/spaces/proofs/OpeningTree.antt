-- The words at the opening are a tree.
use Rattle.std.proofs.Common.{◌≡◌, ℕ, zero, suc, ◌+◌, ◌-◌, ◌%◌, ◌<◌, ◌≤◌, cond, Bool, true, false, Some, None, length, ap, sym, ◌∙◌, subst, refl, arith, IsSome}
use Rattle.std.specs.Prelude.{slice_index, nat_le, nat_lt}
use Rattle.std.proofs.lemmas.Bool.{and_parts}
use Rattle.std.proofs.lemmas.Bool.Decides.{nat_tests}
use Rattle.pte.specs.declared.flags.PteFlags.{PteFlags}
use Rattle.pte.specs.declared.entry.Kind.TheVariants as kinds
use Rattle.pte.specs.Address.{level_pages, top_level, vpn_of}
use Rattle.pte.specs.declared.address.TheConstants.{TABLE_LENGTH}
use Rattle.pte.specs.Entry.{kind_of, is_global, table_word}
use Rattle.pte.proofs.EntryKinds.{kind-table}
use Rattle.pte.proofs.Schemes.{levels_two}
use Rattle.walk.specs.Leads.{word_at}
use Rattle.spaces.specs.declared.places.Place.{Place}
use Rattle.spaces.specs.declared.places.Place.TheVariants.{Space, Kernel}
use Rattle.spaces.specs.Layout.{Layout, HasPlace, is_frame, is_root, frame_count, root_ppn, window_ppn, user_slots, first_window_slot}
use Rattle.spaces.specs.Opening.{first_word, root_word, is_word, opening}
use Rattle.spaces.specs.Held.{IsLayout}
use Rattle.spaces.specs.Tree.{start_level, start_table, IsIn, table_on, IsAtHome, of_root, of_window, of_spare, IsOwn, IsEntryOf, IsHome, IsTree}
use Rattle.walk.specs.Pointers.{pointed}
use Rattle.spaces.proofs.Homes.{spare-own, sum-within, window-own}
use Rattle.spaces.proofs.Paths.{above, vpn-below, some-same}
use Rattle.spaces.proofs.Trees.{root-is, pointed-zero, kind-zero, is_global-zero, zero-leaf}

-- a frame at home is a frame
pub frame-is : (l : Layout) (h f : ℕ) → IsAtHome l h f → is_frame l f ≡ true
frame-is l h f (of_root s has at is) = grind (arith, nat_tests)
frame-is l h f (of_window k has at is) = grind (arith, nat_tests)
frame-is l h f (of_spare n less is) =
    let part = sum-within l.spares h in
    let from : l.base ≤ f = omega arith in
    let to : f < l.base + frame_count l = omega arith in
    grind (arith, nat_tests)

pub word-is : (l : Layout) (h f i : ℕ) → IsAtHome l h f → i < TABLE_LENGTH → is_word l f i ≡ true
word-is l h f i home less = let frame = frame-is l h f home in rw frame (grind (arith, nat_tests))

module _ (l : Layout) (fits : IsLayout l) where
  opening-at : (h f i : ℕ) → IsAtHome l h f → i < TABLE_LENGTH → opening l f i ≡ Some (first_word l f i)
  opening-at h f i home less = ap (λ b. cond b (Some (first_word l f i)) None) (word-is l h f i home less)

  own-word : (f i : ℕ) → IsOwn l f i → first_word l f i ≡ 0
  own-word f i own = by_test (is_root l f) refl
    where
      lower : i < user_slots → root_word l i ≡ 0
      lower less = let slots : i < first_window_slot l = omega (arith, fits.window) in grind (arith, nat_tests)

      by_test : (b : Bool) → is_root l f ≡ b → cond b (root_word l i) 0 ≡ 0
      by_test true t = lower (own t)
      by_test false t = refl

  own-pointed : (f i : ℕ) → IsOwn l f i → pointed (opening l f i) ≡ None
  own-pointed f i own = by_test (is_word l f i)
    where
      by_test : (b : Bool) → pointed (cond b (Some (first_word l f i)) None) ≡ None
      by_test true = ap (λ w. pointed (Some w)) (own-word f i own) ∙ pointed-zero
      by_test false = refl

  own-zero : (f i word : ℕ) → IsOwn l f i → opening l f i ≡ Some word → word ≡ 0
  own-zero f i word own e = by_test (is_word l f i) e
    where
      by_test : (b : Bool) → cond b (Some (first_word l f i)) None ≡ Some word → word ≡ 0
      by_test true e = sym (some-same _ _ e) ∙ own-word f i own
      by_test false e = absurd (let bad : None ≡ Some word = e in cc)

  root-first : (s i : ℕ) → s < length l.homes → first_word l (root_ppn l s) i ≡ root_word l i
  root-first s i has = ap (λ b. cond b (root_word l i) 0) (root-is l s has)

  entry-first : (f i : ℕ) → i < TABLE_LENGTH → IsEntryOf (first_word l f i) (kind_of (first_word l f i))
  entry-first f i less = by_root (is_root l f)
    where
      zero-entry : IsEntryOf 0 (kind_of 0)
      zero-entry = subst (IsEntryOf 0) (sym kind-zero) refl

      by_slot : (b : Bool) → nat_le (first_window_slot l) i ≡ b → IsEntryOf (cond b (table_word (window_ppn l (i - first_window_slot l)) true) 0) (kind_of (cond b (table_word (window_ppn l (i - first_window_slot l)) true) 0))
      by_slot true t =
          let from : first_window_slot l ≤ i = let less' = t in grind (arith, nat_tests) in
          subst (IsEntryOf (table_word (window_ppn l (i - first_window_slot l)) true))
          (sym (kind-table (window_ppn l (i - first_window_slot l)) true (omega (arith, fits.ppns_fit, fits.window)))) tt
      by_slot false t = zero-entry

      by_root : (b : Bool) → IsEntryOf (cond b (root_word l i) 0) (kind_of (cond b (root_word l i) 0))
      by_root true = by_slot (nat_le (first_window_slot l) i) refl
      by_root false = zero-entry

  start-own : (place : Place) (va : ℕ) → HasPlace l place → IsIn l place va → IsOwn l (start_table l place va) (vpn_of va (start_level l place))
  start-own (Space s) va has within = λ _. within
  start-own Kernel va has within = let slot = vpn-below va (top_level l.scheme) in window-own l (vpn_of va (top_level l.scheme) - first_window_slot l) _ (omega (arith, fits.window))

  -- no path goes further than its first table
  only-start : (place : Place) (va n t : ℕ) → HasPlace l place → IsIn l place va → table_on l (opening l) place va n ≡ Some t → (n ≡ 0) × (t ≡ start_table l place va)
  only-start place va zero t has within e = (refl, sym (some-same _ _ e))
  only-start place va (suc n) t has within e =
      let up = above (opening l) va (start_level l place) (start_table l place va) n t e in
      let first = only-start place va n up.table_above has within up.on in
      let level : start_level l place - n ≡ start_level l place = omega (arith, first.0) in
      let points : pointed (word_at (opening l) va (start_level l place) (start_table l place va)) ≡ Some t =
      ap (λ u. pointed (word_at (opening l) va (start_level l place) u)) (sym first.1) ∙ ap (λ k. pointed (word_at (opening l) va k up.table_above)) (sym level) ∙ up.points
      in
      let nothing = own-pointed (start_table l place va) (vpn_of va (start_level l place)) (start-own place va has within) in
      absurd (let bad : None ≡ Some t = sym nothing ∙ points in cc)

  bottom-first : (place : Place) (va t : ℕ) → HasPlace l place → IsIn l place va → table_on l (opening l) place va (start_level l place) ≡ Some t → pointed (word_at (opening l) va 0 t) ≡ None
  bottom-first (Space s) va t has within e = let first = only-start (Space s) va (start_level l (Space s)) t has within e in absurd (omega (arith, first.0, levels_two l.scheme))
  bottom-first Kernel va t has within e = let first = only-start Kernel va (start_level l Kernel) t has within e in absurd (omega (arith, first.0, levels_two l.scheme))

  plain-first : (s va n t word : ℕ) → s < length l.homes → slice_index l.homes s < length l.spares → IsIn l (Space s) va → n ≤ top_level l.scheme
      → table_on l (opening l) (Space s) va n ≡ Some t → word_at (opening l) va (top_level l.scheme - n) t ≡ Some word → is_global word ≡ false
  plain-first s va n t word has home within deep e w =
      let first = only-start (Space s) va n t has within e in
      let level : top_level l.scheme - n ≡ top_level l.scheme = omega (arith, first.0) in
      let at : opening l (root_ppn l s) (vpn_of va (top_level l.scheme)) ≡ Some word =
      ap (λ u. word_at (opening l) va (top_level l.scheme) u) (sym first.1) ∙ ap (λ k. word_at (opening l) va k t) (sym level) ∙ w
      in
      let zero-word : Some 0 ≡ Some word =
      ap Some (sym (own-word (root_ppn l s) (vpn_of va (top_level l.scheme)) (λ _. within))) ∙ sym (opening-at _ (root_ppn l s) (vpn_of va (top_level l.scheme)) (of_root s has refl refl) (vpn-below va (top_level l.scheme))) ∙ at
      in
      ap is_global (sym (some-same _ _ zero-word)) ∙ is_global-zero

  -- no path comes to a leaf
  aligned-first : (place : Place) (va n t word ppn : ℕ) (flags : PteFlags) → HasPlace l place → IsIn l place va
      → table_on l (opening l) place va n ≡ Some t → word_at (opening l) va (start_level l place - n) t ≡ Some word → kind_of word ≡ kinds.Leaf ppn flags
      → ppn % level_pages (start_level l place - n) ≡ 0
  aligned-first place va n t word ppn flags has within e w kind =
      let first = only-start place va n t has within e in
      let level : start_level l place - n ≡ start_level l place = omega (arith, first.0) in
      let at : word_at (opening l) va (start_level l place) (start_table l place va) ≡ Some word =
      ap (λ u. word_at (opening l) va (start_level l place) u) (sym first.1) ∙ ap (λ k. word_at (opening l) va k t) (sym level) ∙ w
      in
      absurd (zero-leaf word ppn flags (own-zero (start_table l place va) (vpn_of va (start_level l place)) word (start-own place va has within) at) kind)

  pub home-opening : (h : ℕ) → h < length l.spares → IsHome l (opening l) h (λ _. None)
  home-opening h there = record {
    held = λ f place e home. let bad : None ≡ Some place = e in cc;
    present = λ f i home less. subst IsSome (sym (opening-at h f i home less)) refl;
    entries = λ f i word home e. by_test f i word (is_word l f i) refl e;
    window = λ s k has home less.
        let slot : first_window_slot l + k - first_window_slot l ≡ k = omega arith in
        opening-at h _ _ (of_root s has home refl) (omega (arith, fits.window)) ∙ ap Some (root-first s _ has)
        ∙ ap (λ b. Some (cond b (table_word (window_ppn l (first_window_slot l + k - first_window_slot l)) true) 0)) (let le : nat_le (first_window_slot l) (first_window_slot l + k) ≡ true = grind (arith, nat_tests) in le)
        ∙ ap (λ j. Some (table_word (window_ppn l j) true)) slot;
    upper = λ s i has home from to.
        opening-at h _ _ (of_root s has home refl) (omega arith) ∙ ap Some (root-first s i has)
        ∙ ap (λ b. Some (cond b (table_word (window_ppn l (i - first_window_slot l)) true) 0)) (let gt : nat_le (first_window_slot l) i ≡ false = grind (arith, nat_tests) in gt);
    closed = λ f i g home own e. absurd (let bad : None ≡ Some g = sym (own-pointed f i own) ∙ e in cc);
    once = λ f i f' i' g home home' own own' e e'. absurd (let bad : None ≡ Some g = sym (own-pointed f i own) ∙ e in cc);
    unused = λ n i none to less. opening-at h _ _ (of_spare n to refl) less ∙ ap Some (own-word _ i (spare-own l h n i));
    bottom = λ place va t has home within e. bottom-first place va t has within e;
    plain = λ s va n t word has home within deep e w. plain-first s va n t word has (subst (λ k. k < length l.spares) (sym home) there) within deep e w;
    aligned = λ place va n t word ppn flags has home within deep e w kind. aligned-first place va n t word ppn flags has within e w kind;
  }
    where
      by_test : (f i word : ℕ) (b : Bool) → is_word l f i ≡ b → cond b (Some (first_word l f i)) None ≡ Some word → IsEntryOf word (kind_of word)
      by_test f i word true t e =
          let less : i < TABLE_LENGTH = below-length f i t in subst (λ w. IsEntryOf w (kind_of w)) (some-same _ _ e) (entry-first f i less)
        where
          below-length : (f i : ℕ) → is_word l f i ≡ true → i < TABLE_LENGTH
          below-length f i t = let p = and_parts (is_frame l f) (nat_lt i TABLE_LENGTH) t in let less = p.1 in grind (arith, nat_tests)
      by_test f i word false t e = absurd (let bad : None ≡ Some word = e in cc)

  pub opening-tree : IsTree l (opening l) (λ _. None)
  opening-tree = home-opening
